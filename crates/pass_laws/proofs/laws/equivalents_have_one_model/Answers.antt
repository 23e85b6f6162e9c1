use Rattle.pass_laws.proofs.ModelsCarried.{one_model}
use Rattle.pass_laws.proofs.laws.equivalents_have_one_model.Goals as goal

pub returns : goal.returns
returns c = one_model
