use Rattle.smt_terms.specs.declared.ids.NodeId.{NodeId}
use Rattle.simplify.proofs.OnceNodes.{once-step, nodes-step}
use Rattle.simplify.proofs.operands.once.Goals as goal

pub loop-id-preserved : goal.loop-id-preserved
loop-id-preserved c =
    let inv = c.loop-id.invariant in
    let t = c.args.table.now in
    let d : NodeId = record { 0 = 0 } in
    record {
      terms = once-step t c.know_table.ensures c.args.ids.now c.loop-id.kept.keys c.put.new.kept.keys c.loop-id.id-index d c.loop-id-test.true c.requires inv.nodes inv.terms c.in_ok-put.ensures;
      nodes = nodes-step t c.know_table.ensures c.args.ids.now c.loop-id.kept.keys c.put.new.kept.keys c.loop-id.id-index d c.loop-id-test.true c.requires inv.nodes c.in_ok-put.ensures;
    }
