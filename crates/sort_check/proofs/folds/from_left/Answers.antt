use Rattle.sort_check.proofs.Folding.{left_first, left_kid, left_ranked, left_next, left_done}
use Rattle.sort_check.proofs.folds.from_left.Goals as goal

pub loop-kid-init : goal.loop-kid-init
loop-kid-init c = left_first c.args.table.now c.args.op c.args.first c.args.rest.now c.requires.takes

pub pair-requires-clause-right : goal.pair-requires-clause-right
pair-requires-clause-right c =
    left_kid c.args.table.now c.args.op c.args.first c.args.rest.now c.requires.takes c.requires.apt c.loop-kid.table c.loop-kid.all c.loop-kid.kid-index _ c.loop-kid-test.true c.loop-kid.invariant

pub pair-requires-clause-ranked : goal.pair-requires-clause-ranked
pair-requires-clause-ranked c =
    left_ranked c.args.table.now c.args.op c.args.first c.args.rest.now c.requires.takes c.requires.apt c.loop-kid.table c.loop-kid.all c.loop-kid.kid-index _ c.loop-kid-test.true c.loop-kid.invariant

pub loop-kid-preserved : goal.loop-kid-preserved
loop-kid-preserved c =
    left_next c.args.table.now c.args.op c.args.first c.args.rest.now c.requires.takes c.requires.apt c.loop-kid.table c.loop-kid.all c.loop-kid.kid-index _ c.loop-kid-test.true c.loop-kid.invariant c.pair.new.table c.in_ok-all.all c.in_ok-all.ensures.extends c.in_ok-all.ensures.node c.in_ok-all.ensures.term

pub returns-clause-term : goal.returns-clause-term
returns-clause-term c = left_done c.args.table.now c.args.op c.args.first c.args.rest.now c.requires.takes c.loop-kid.table c.loop-kid.all c.loop-kid.kid-index c.loop-kid-test.false c.loop-kid.auto.kid-index-end c.loop-kid.invariant
