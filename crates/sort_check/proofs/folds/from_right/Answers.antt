use Rattle.std.proofs.Common.{◌-◌, length, arith}
use Rattle.sort_check.proofs.Folding.{right_last, right_kid, right_ranked, right_next, right_done}
use Rattle.sort_check.proofs.folds.from_right.Goals as goal

pub loop-k-init : goal.loop-k-init
loop-k-init c = right_last c.args.table.now c.args.op c.args.kids.now c.requires.takes c.requires.apt (length c.args.kids.now - 1) _ (omega arith)

pub pair-requires-clause-left : goal.pair-requires-clause-left
pair-requires-clause-left c =
    right_kid c.args.table.now c.args.op c.args.kids.now c.requires.takes c.requires.apt c.loop-k.table c.loop-k.all (c.loop-k.k - 1) c.loop-k.k _ (omega arith) (omega arith) c.loop-k.invariant

pub pair-requires-clause-ranked : goal.pair-requires-clause-ranked
pair-requires-clause-ranked c =
    right_ranked c.args.table.now c.args.op c.args.kids.now c.requires.takes c.requires.apt c.loop-k.table c.loop-k.all (c.loop-k.k - 1) c.loop-k.k _ (omega arith) (omega arith) c.loop-k.invariant

pub loop-k-preserved : goal.loop-k-preserved
loop-k-preserved c =
    right_next c.args.table.now c.args.op c.args.kids.now c.requires.takes c.requires.apt c.loop-k.table c.loop-k.all (c.loop-k.k - 1) c.loop-k.k _ (omega arith) (omega arith) c.loop-k.invariant
    c.pair.new.table c.in_ok-all.all c.in_ok-all.ensures.extends c.in_ok-all.ensures.node c.in_ok-all.ensures.term

pub returns-clause-term : goal.returns-clause-term
returns-clause-term c = right_done c.args.table.now c.loop-k.table c.args.op c.args.kids.now c.loop-k.all c.loop-k.k c.loop-k-test.false c.loop-k.invariant
