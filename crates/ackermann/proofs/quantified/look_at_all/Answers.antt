use Rattle.std.proofs.Common.{take, sym, subst}
use Rattle.std.proofs.lemmas.List.{take_more}
use Rattle.smt_terms.specs.declared.ids.NodeId.{NodeId}
use Rattle.ackermann.specs.Marking.{AreKnown}
use Rattle.ackermann.proofs.quantified.look_at_all.Goals as goal

pub loop-id-preserved : goal.loop-id-preserved
loop-id-preserved c =
    let t = c.args.table.now in
    let ks = c.args.order.now in
    let d : NodeId = record { 0 = 0 } in
    subst (AreKnown t c.look_at.new.known.applied.keys c.look_at.new.known.refused.keys) (sym (take_more ks c.loop-id.id-index d c.loop-id-test.true))
    (c.in_ok-look_at.ensures (take c.loop-id.id-index ks) c.loop-id.invariant (c.requires.order c.loop-id.id-index d c.loop-id-test.true))
