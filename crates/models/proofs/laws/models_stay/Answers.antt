use Rattle.models.proofs.ModelsGrown.{model_stays, numbers_stay}
use Rattle.models.proofs.laws.models_stay.Goals as goal

pub returns : goal.returns
returns c old new m grows is = (model_stays old new m grows is, numbers_stay old new m grows is)
