use Rattle.std.proofs.Common.{arith}
use Rattle.simplify.proofs.GatheredNodes.{others-more, others-all}
use Rattle.simplify.proofs.numbers.others.Goals as goal

pub loop-id-preserved : goal.loop-id-preserved
loop-id-preserved c = record {
  terms = others-more c.args.table.now c.args.ids.now c.loop-id.id-index (record { 0 = 0 }) c.loop-id.others.items c.add_other.new.others.items c.loop-id-test.true c.in_ok-add_other.ensures.terms c.loop-id.invariant.terms;
  numbers = c.in_ok-add_other.ensures.others;
}

pub returns-clause-terms : goal.returns-clause-terms
returns-clause-terms c =
    let past = c.loop-id-test.false in
    others-all c.args.table.now c.args.ids.now c.loop-id.id-index c.loop-id.others.items (omega arith) c.loop-id.invariant.terms
