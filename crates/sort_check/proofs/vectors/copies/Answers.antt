use Rattle.sort_check.proofs.Repeating.{copied_none, copied_kid, copied_all, copied_ranked, copied_next, copied_done}
use Rattle.sort_check.proofs.vectors.copies.Goals as goal

pub loop-init : goal.loop-init
loop-init c = copied_none c.args.table.now c.args.kid c.args.more

pub pair-requires-clause-left : goal.pair-requires-clause-left
pair-requires-clause-left c = copied_kid c.args.table.now c.loop.table c.args.kid c.loop.all c.args.more c.loop.counter c.requires c.loop-test.true c.loop.invariant

pub pair-requires-clause-right : goal.pair-requires-clause-right
pair-requires-clause-right c = copied_all c.args.table.now c.loop.table c.args.kid c.loop.all c.args.more c.loop.counter c.requires c.loop-test.true c.loop.invariant

pub pair-requires-clause-ranked : goal.pair-requires-clause-ranked
pair-requires-clause-ranked c = copied_ranked c.args.table.now c.loop.table c.args.kid c.loop.all c.args.more c.loop.counter c.requires c.loop-test.true c.loop.invariant

pub loop-preserved : goal.loop-preserved
loop-preserved c =
    copied_next c.args.table.now c.loop.table c.args.kid c.loop.all c.args.more c.loop.counter c.requires c.loop-test.true c.loop.invariant
    c.pair.new.table c.in_ok-all.all c.in_ok-all.ensures.extends c.in_ok-all.ensures.node c.in_ok-all.ensures.term

pub returns-clause-term : goal.returns-clause-term
returns-clause-term c = copied_done c.args.table.now c.loop.table c.args.kid c.loop.all c.args.more c.loop.counter c.loop-test.false c.loop.auto.counter-end c.loop.invariant
