use Rattle.std.proofs.Common.{◌≡◌, take}
use Rattle.smt_terms.specs.Models.{IsModel}
use Rattle.term_table.specs.Formulas.{Formulas, IsTable}
use Rattle.models.specs.ModelView.{model_at, IsModelOf}
use Rattle.pass_laws.specs.LiveGroups.{without_drawn}
use Rattle.passes.specs.Plans.{steps_of, IsStageOver}
use Rattle.passes.proofs.carrying.forget_drawn.Given as goal

abbrev pub invariant-loop-step : goal.invariant-loop-step
invariant-loop-step l = record {
  model : (t : Formulas) → IsTable t → IsStageOver t l.stage → model_at t l.model ≡ without_drawn (take l.step-index (steps_of t l.stage.steps.items)) (model_at t l.fn.model);
  valid : (t : Formulas) → IsTable t → IsStageOver t l.stage → IsModel (model_at t l.fn.model) → IsModel (model_at t l.model);
  numbers : (t : Formulas) → IsModelOf t l.fn.model → IsModelOf t l.model;
}
