use Rattle.simplify.proofs.ArraySteps.{makes-store}
use Rattle.simplify.proofs.arrays.store.Goals as goal

pub intern-requires : goal.intern-requires
intern-requires c = makes-store c.args.table.now c.args.array c.bare-reached.result c.bare-reached.ensures.node c.bare-reached.ensures.sort c.args.index c.args.value c.requires
