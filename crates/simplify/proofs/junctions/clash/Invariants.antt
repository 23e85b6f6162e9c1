use Rattle.std.proofs.Common.{◌≡◌, false, take}
use Rattle.std.specs.List.{list_any}
use Rattle.term_table.specs.Formulas.{trees_at}
use Rattle.simplify.specs.Joined.{is_clash}
use Rattle.simplify.proofs.junctions.clash.Given as goal

abbrev pub invariant-loop-id : goal.invariant-loop-id
invariant-loop-id l = record {
  none : list_any (is_clash l.neutral (trees_at l.table l.operands.keys)) (trees_at l.table (take l.id-index l.ids)) ≡ false;
}
