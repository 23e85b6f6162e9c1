use Rattle.std.proofs.Common.{sym}
use Rattle.simplify.proofs.ArraySteps.{element-missing}
use Rattle.simplify.proofs.arrays.is_element.Goals as goal

pub returns-in-None : goal.returns-in-None
returns-in-None c = sym (element-missing c.args.table.now c.args.array c.args.index c.args.value c.requires.value (rw c.in-None.is at c.in_ok-element.ensures.found))
