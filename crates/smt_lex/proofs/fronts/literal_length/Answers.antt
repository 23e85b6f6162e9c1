use Rattle.std.proofs.Common.{eq-eqb}
use Rattle.smt_lex.proofs.Literals.{passed_none, passed_other, passed_pair}
use Rattle.smt_lex.proofs.fronts.literal_length.Goals as goal

pub loop-at-init : goal.loop-at-init
loop-at-init c = passed_none c.args.text.now

pub loop-at-preserved-then-text-at-ne34 : goal.loop-at-preserved-then-text-at-ne34
loop-at-preserved-then-text-at-ne34 c = passed_other _ _ c.loop-at.invariant c.loop-at-test.true c.if-text-at-ne34.true

pub loop-at-preserved : goal.loop-at-preserved
loop-at-preserved c = passed_pair _ _ c.loop-at.invariant c.loop-at-test.true (eq-eqb _ _ c.if-text-at-ne34.false) c.if-at-text.true (eq-eqb _ _ c.if-text-at-eq34.true)
