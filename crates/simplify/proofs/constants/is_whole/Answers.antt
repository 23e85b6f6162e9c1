use Rattle.term_table.specs.Formulas.{kind, tree, operands}
use Rattle.simplify.proofs.ConstantNodes.{no-whole, same-whole, whole-same}
use Rattle.simplify.proofs.ConstantTests.{whole_constant, whole_told, other_whole}
use Rattle.simplify.proofs.constants.is_whole.Goals as goal

pub returns-in-Whole : goal.returns-in-Whole
unfolding kind
returns-in-Whole c =
    let u = tree c.args.table.now c.args.id in
    let m = c.in-Whole.m in
    let there = whole_constant m u (operands u) (c.in-Whole.ensures.table.sorted c.args.id.0 c.requires) c.in-Whole.ensures.term in
    whole_told u c.args.n m _ there.value (same-whole m c.args.n there.scalar c.ranges.n) (whole-same m c.args.n)

pub returns-in_default : goal.returns-in_default
returns-in_default c =
    let u = tree c.args.table.now c.args.id in
    other_whole u c.args.n (no-whole c.args.table.now c.op.result u c.op.ensures.term c.args.n c.in_default.not-Whole)
