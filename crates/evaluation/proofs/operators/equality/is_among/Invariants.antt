use Rattle.std.proofs.Common.{◌≡◌, drop}
use Rattle.std.specs.List.{list_any}
use Rattle.smt_terms.specs.Values.{same}
use Rattle.smt_values.specs.Meaning.{meaning}
use Rattle.smt_values.specs.SizeTable.{sizes_by}
use Rattle.smt_values.specs.SortIds.{sort_at}
use Rattle.models.specs.GraphRows.{meanings}
use Rattle.evaluation.proofs.operators.equality.is_among.Given as goal

abbrev pub invariant-loop-other : goal.invariant-loop-other
invariant-loop-other l =
    list_any (same (sort_at l.sorts l.sort) (sizes_by l.sorts l.sizes) (meaning l.value)) (meanings l.others)
    ≡ list_any (same (sort_at l.sorts l.sort) (sizes_by l.sorts l.sizes) (meaning l.value)) (meanings (drop l.other-index l.others))
