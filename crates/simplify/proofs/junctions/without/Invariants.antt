use Rattle.std.proofs.Common.{◌≡◌, take, filter, not}
use Rattle.term_table.specs.Formulas.{trees_at, AreNodes}
use Rattle.simplify.specs.Folding as plain
use Rattle.simplify.proofs.junctions.without.Given as goal

abbrev pub invariant-loop-id : goal.invariant-loop-id
invariant-loop-id l = record {
  terms : trees_at l.table l.left.items ≡ filter (λ t. not (plain.is_truth l.neutral t)) (trees_at l.table (take l.id-index l.ids));
  nodes : AreNodes l.table l.left.items;
}
