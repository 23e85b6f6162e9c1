use Rattle.std.proofs.Common.{◌≡◌, ◌≤◌, length, drop}
use Rattle.term_table.specs.Formulas.{tree}
use Rattle.term_walk.specs.Walking.{GrowsTo}
use Rattle.normal_forms.specs.Nodes.{IsFormula}
use Rattle.quantifier_forms.specs.Pulling.{behind_fronts, fronts_at}
use Rattle.quantifier_forms.proofs.pulling.close.Given as goal

abbrev pub invariant-loop-place : goal.invariant-loop-place
invariant-loop-place l = record {
  within : l.place ≤ length l.prefix;
  formula : IsFormula l.table l.form;
  term : tree l.table l.form ≡ behind_fronts (drop l.place (fronts_at l.fn.table l.prefix)) (tree l.fn.table l.fn.matrix);
  grows : GrowsTo l.fn.table l.table;
  symbols : l.table.symbols ≡ l.fn.table.symbols;
}
