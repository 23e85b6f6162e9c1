use Rattle.std.proofs.Common.{◌≡◌, map, take}
use Rattle.term_table.specs.Formulas.{symbol_at}
use Rattle.models.specs.ModelView.{model_at, IsModelOf}
use Rattle.bit_scripts.specs.Lifting.{with_flags}
use Rattle.bit_scripts.proofs.lifting.lift_flags.Given as goal

abbrev pub invariant-loop-symbol : goal.invariant-loop-symbol
invariant-loop-symbol l = record {
  model : model_at l.table l.made ≡ with_flags (map (symbol_at l.table) (take l.symbol-index l.symbols)) (model_at l.table l.model) (model_at l.table l.fn.made);
  numbers : IsModelOf l.table l.fn.made → IsModelOf l.table l.made;
}
