use Rattle.std.proofs.Common.{◌≡◌, map, drop}
use Rattle.smt_terms.specs.Rank.{only, first_misfit}
use Rattle.smt_values.specs.SortIds.{sort_at}
use Rattle.term_table.specs.ShapeRank.{kid_sorts}
use Rattle.term_table.proofs.table.Table.unlike_all.Given as goal

abbrev pub invariant-loop-k : goal.invariant-loop-k
invariant-loop-k l =
    first_misfit 0 (map (λ _. only (sort_at l.self.sorts l.want)) (kid_sorts l.self l.kids)) (kid_sorts l.self l.kids)
    ≡ first_misfit l.k (drop l.k (map (λ _. only (sort_at l.self.sorts l.want)) (kid_sorts l.self l.kids))) (drop l.k (kid_sorts l.self l.kids))
