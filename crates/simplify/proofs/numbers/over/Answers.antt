use Rattle.simplify.proofs.GatheredNodes.{makes_over, names_over}
use Rattle.simplify.proofs.numbers.over.Goals as goal

pub intern-requires : goal.intern-requires
intern-requires c = makes_over c.args.table.now c.args.op c.args.neutral c.requires.gathers c.args.ids.now c.requires.ids c.in_default.len_at_least

pub returns-in_default-clause-over : goal.returns-in_default-clause-over
returns-in_default-clause-over c = names_over c.args.table.now c.intern.new.self c.args.op c.args.neutral c.args.ids.now c.intern.result c.requires.gathers c.in_default.len_at_least c.intern.ensures.node c.intern.ensures.term
