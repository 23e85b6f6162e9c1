use Rattle.smt_values.proofs.Alike.{equal_first}
use Rattle.smt_values.proofs.apply.logic.equal.Goals as goal

pub returns : goal.returns
returns c s sizes all = equal_first s sizes c.args.args.now c.requires.scalars all c.requires.two c.eq.result c.eq.ensures
