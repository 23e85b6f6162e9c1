use Rattle.std.proofs.Common.{◌≡◌, take, All}
use Rattle.smt_terms.specs.Models.{IsModel}
use Rattle.term_table.specs.Formulas.{Formulas, IsTable}
use Rattle.models.specs.ModelView.{model_at, IsModelOf}
use Rattle.passes.specs.LiveSymbols.{dropped_at}
use Rattle.passes.specs.Plans.{IsPairOver}
use Rattle.passes.proofs.carrying.forget_symbols.Given as goal

abbrev pub invariant-loop-place : goal.invariant-loop-place
invariant-loop-place l = record {
  model : (t : Formulas) → IsTable t → All (IsPairOver t) l.symbols → model_at t l.model ≡ dropped_at t (take l.place l.symbols) (model_at t l.fn.model);
  valid : (t : Formulas) → IsTable t → All (IsPairOver t) l.symbols → IsModel (model_at t l.fn.model) → IsModel (model_at t l.model);
  numbers : (t : Formulas) → IsModelOf t l.fn.model → IsModelOf t l.model;
}
