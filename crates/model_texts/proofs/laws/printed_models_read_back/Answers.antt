use Rattle.model_texts.proofs.ReadBack.{models_read_back}
use Rattle.model_texts.proofs.laws.printed_models_read_back.Goals as goal

pub returns : goal.returns
returns c = models_read_back
