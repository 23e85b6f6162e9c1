use Rattle.simplify.proofs.LogicNodes.{twice-answers}
use Rattle.simplify.proofs.logic.twice.Goals as goal

pub returns-in-len1 : goal.returns-in-len1
returns-in-len1 c = twice-answers c.args.table.now c.args.op c.args.ids.now (record { 0 = 0 }) c.only_operand.result c.in-len1.len_at_least c.in-len1.len_below c.only_operand.ensures
