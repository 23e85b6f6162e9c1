use Rattle.term_table.specs.Formulas.{tree}
use Rattle.simplify.proofs.LogicNodes.{unlike-operator}
use Rattle.simplify.proofs.operands.only_operand.Goals as goal

pub returns-then-not-is : goal.returns-then-not-is
returns-then-not-is c = unlike-operator c.args.table.now c.op.result c.args.op c.is.result (tree c.args.table.now c.args.id) c.op.ensures.term c.if-not-is.true c.is.ensures
