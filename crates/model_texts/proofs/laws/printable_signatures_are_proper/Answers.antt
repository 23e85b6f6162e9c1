use Rattle.model_texts.proofs.PrintableSignatures.{signatures_are_proper}
use Rattle.model_texts.proofs.laws.printable_signatures_are_proper.Goals as goal

pub returns : goal.returns
returns c = signatures_are_proper
