use Rattle.std.proofs.Common.{◌≡◌, length}
use Rattle.term_table.specs.Formulas.{trees_at}
use Rattle.simplify.proofs.FoldedConstants.{ConstantsAt}
use Rattle.simplify.proofs.folding.constants_of.Given as goal

abbrev pub invariant-loop-id : goal.invariant-loop-id
invariant-loop-id l = record {
  number : length l.constants.items ≡ l.id-index;
  each : ConstantsAt (trees_at l.table l.ids) l.constants.items;
}
