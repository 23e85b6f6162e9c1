use Rattle.std.proofs.Common.{get_or, subst, arith}
use Rattle.smt_terms.specs.declared.ids.NodeId.{NodeId}
use Rattle.cnf_polarity.specs.Marks.{AddsMark}
use Rattle.cnf_polarity.proofs.NodeConnectives.{nodes-below}
use Rattle.cnf_polarity.proofs.PassedMarks.{passing-more}
use Rattle.cnf_polarity.proofs.polarities.pass_on.Goals as goal

pub loop-operand-preserved : goal.loop-operand-preserved
loop-operand-preserved c =
    let kids = c.kids-kids.result.now in
    let within = c.loop-operand-test.true in
    let d : NodeId = record { 0 = 0 } in
    let kid : NodeId = get_or kids c.loop-operand.operand d in
    passing-more c.args.table.now c.in-Some.connective c.of-polarities.result kids c.kids-kids.ensures.table c.loop-operand.operand d c.args.occurrences.now c.loop-operand.occurrences c.add.new.self
    (omega arith) (nodes-below c.args.table.now c.args.id kids c.requires c.kids-kids.ensures.below c.loop-operand.operand d (omega arith)) c.loop-operand.invariant
    (subst (λ p. AddsMark c.loop-operand.occurrences c.add.new.self kid p) c.turned.ensures c.in_ok-add.ensures)
