use Rattle.std.proofs.Common.{◌≡◌, map, take}
use Rattle.smt_terms.specs.Models.{IsModel}
use Rattle.term_table.specs.Formulas.{symbol_at}
use Rattle.models.specs.ModelView.{model_at, IsModelOf}
use Rattle.passes.specs.LiveSymbols.{with_defaults}
use Rattle.passes.proofs.carrying.define_defaults.Given as goal

abbrev pub invariant-loop-symbol : goal.invariant-loop-symbol
invariant-loop-symbol l = record {
  model : model_at l.table l.model ≡ with_defaults (map (symbol_at l.table) (take l.symbol-index l.symbols)) (model_at l.table l.fn.model);
  valid : IsModel (model_at l.table l.model);
  numbers : IsModelOf l.table l.fn.model → IsModelOf l.table l.model;
  sizes : l.model.sizes ≡ l.fn.model.sizes;
}
