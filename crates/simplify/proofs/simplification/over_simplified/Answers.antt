use Rattle.simplify.proofs.SimplifiedNodes.{symbol-makes, filled-makes}
use Rattle.simplify.proofs.simplification.over_simplified.Goals as goal

pub intern-requires : goal.intern-requires
intern-requires c = symbol-makes c.args.table.now c.args.op _ c.args.ids.now c.in-Sym.is c.requires.over

pub intern-requires-in-ConstArray : goal.intern-requires-in-ConstArray
intern-requires-in-ConstArray c = filled-makes c.args.table.now c.args.op _ c.args.ids.now c.in-ConstArray.is c.requires.over
