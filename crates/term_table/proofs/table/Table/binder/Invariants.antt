use Rattle.std.proofs.Common.{◌≡◌}
use Rattle.smt_terms.specs.Rank.{rank_quantifier}
use Rattle.term_table.specs.Formulas.{trees_at}
use Rattle.term_table.specs.ShapeRank.{kid_sorts}
use Rattle.term_table.proofs.Binding.{from_place}
use Rattle.term_table.proofs.table.Table.binder.Given as goal

abbrev pub invariant-loop-k : goal.invariant-loop-k
invariant-loop-k l =
    rank_quantifier (trees_at l.self l.kids) (kid_sorts l.self l.kids) ≡ from_place (trees_at l.self l.kids) (kid_sorts l.self l.kids) l.k
