use Rattle.std.proofs.Common.{◌≡◌, map, drop}
use Rattle.smt_values.specs.SortIds.{sort_at}
use Rattle.model_texts.specs.Entries.{have_sorts}
use Rattle.model_texts.specs.GivenParameters.{parameters_of}
use Rattle.model_texts.proofs.entries.have_sorts.Given as goal

-- the sorts so far are those of the parameters
abbrev pub invariant-loop-place : goal.invariant-loop-place
invariant-loop-place l =
    have_sorts (map (sort_at l.table.sorts) l.sorts) (parameters_of l.forest.tokens l.parameters)
    ≡ have_sorts (drop l.place (map (sort_at l.table.sorts) l.sorts)) (drop l.place (parameters_of l.forest.tokens l.parameters))
