use Rattle.std.proofs.Common.{◌≡◌, take, All}
use Rattle.term_table.specs.Formulas.{trees_at}
use Rattle.term_walk.specs.Walking.{GrowsTo}
use Rattle.normal_forms.specs.Nodes.{IsFormula}
use Rattle.ackermann.specs.LiveUses.{equal_each}
use Rattle.ackermann.proofs.pairs.equations.Given as goal

abbrev pub invariant-loop-i : goal.invariant-loop-i
invariant-loop-i l = record {
  grows : GrowsTo l.fn.table l.table;
  symbols : l.table.symbols ≡ l.fn.table.symbols;
  formulas : All (IsFormula l.table) l.equations.items;
  terms : trees_at l.table l.equations.items ≡ equal_each (take l.i (trees_at l.fn.table l.first)) (take l.i (trees_at l.fn.table l.second));
}
