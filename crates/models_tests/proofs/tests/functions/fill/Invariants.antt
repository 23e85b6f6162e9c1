use Rattle.smt_terms.specs.Models.{IsModel}
use Rattle.models.specs.ModelView.{model_at}
use Rattle.models_tests.proofs.tests.functions.fill.Given as goal

abbrev pub invariant-loop-number : goal.invariant-loop-number
invariant-loop-number g l = IsModel (model_at l.table l.model)
