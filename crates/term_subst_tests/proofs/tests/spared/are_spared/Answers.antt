use Rattle.std.proofs.Common.{arith}
use Rattle.smt_terms.specs.declared.ids.NodeId.{NodeId}
use Rattle.term_subst.proofs.Spared.{next-spared}
use Rattle.term_subst_tests.proofs.tests.spared.are_spared.Goals as goal

pub loop-number-preserved : goal.loop-number-preserved
loop-number-preserved c s =
    let id : NodeId = record { 0 = c.loop-number.number } in
    next-spared s c.args.table.now id c.kids.result.now (c.is_short.ensures s c.if-not-is_short.false) c.kids.ensures.terms c.kids.ensures.below (c.loop-number.invariant s)

pub returns : goal.returns
returns c s whole i lt =
    let past = c.loop-number-test.false in
    let count = c.len-number-end.ensures.value in
    c.loop-number.invariant s i (omega (arith, past, count, lt))
