use Rattle.simplify.proofs.ConstantNodes.{ones-number}
use Rattle.simplify.proofs.constants.all_ones.Goals as goal

pub returns : goal.returns
returns c = ones-number c.args.width c.requires.most
