use Rattle.std.proofs.Common.{◌≡◌, take}
use Rattle.term_table.specs.Formulas.{trees_at, AreNodes}
use Rattle.simplify.specs.Folding as plain
use Rattle.simplify.proofs.operands.once.Given as goal

abbrev pub invariant-loop-id : goal.invariant-loop-id
invariant-loop-id l = record {
  terms : trees_at l.table l.kept.keys ≡ plain.once (trees_at l.table (take l.id-index l.ids));
  nodes : AreNodes l.table l.kept.keys;
}
