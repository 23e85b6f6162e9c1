use Rattle.std.proofs.Common.{◌≡◌, map, drop}
use Rattle.smt_terms.specs.Rank.{only, first_misfit}
use Rattle.smt_values.specs.SortIds.{sort_at}
use Rattle.term_table.specs.ShapeRank.{kid_sorts}
use Rattle.term_table.proofs.table.Table.unlike_each.Given as goal

abbrev pub invariant-loop-k : goal.invariant-loop-k
invariant-loop-k l =
    first_misfit 0 (map only (map (sort_at l.self.sorts) l.wants)) (kid_sorts l.self l.kids)
    ≡ first_misfit l.k (drop l.k (map only (map (sort_at l.self.sorts) l.wants))) (drop l.k (kid_sorts l.self l.kids))
