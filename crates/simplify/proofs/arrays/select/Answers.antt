use Rattle.simplify.proofs.ArraySteps.{makes-select}
use Rattle.simplify.proofs.arrays.select.Goals as goal

pub intern-requires : goal.intern-requires
intern-requires c = makes-select c.args.table.now c.args.array c.in-Of.reached c.in-Of.ensures.node c.in-Of.ensures.sort c.args.index c.requires
