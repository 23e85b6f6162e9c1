use Rattle.std.proofs.Common.{◌≡◌, take}
use Rattle.models.specs.LiveNumbers.{signature_of}
use Rattle.models.specs.ModelView.{model_at, IsModelOf}
use Rattle.dimacs_link.specs.AnswerModels.{answered}
use Rattle.dimacs_link.specs.Constants.{constants_at}
use Rattle.dimacs_link.proofs.answer_models.answer_model.Given as goal

abbrev pub invariant-loop-place : goal.invariant-loop-place
invariant-loop-place l = record {
  model : model_at l.table l.model ≡ answered (signature_of l.table l.signature) (constants_at l.table (take l.place l.constants)) (take l.place l.values);
  numbers : IsModelOf l.table l.model;
}
