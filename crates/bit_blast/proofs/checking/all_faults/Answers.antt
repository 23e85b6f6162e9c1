use Rattle.std.proofs.Common.{sym, ◌∙◌}
use Rattle.bit_blast.proofs.FaultNodes.{fault-known, fault-more, fine-more}
use Rattle.bit_blast.proofs.OrderedNodes.{operand-before}
use Rattle.bit_blast.proofs.checking.all_faults.Goals as goal
use Rattle.bit_blast.proofs.checking.all_faults.Goals.{then-not-is_over_bits+in_ok-note, else-not-is_over_bits}

pub is_over_bits-requires-clause-operands : goal.is_over_bits-requires-clause-operands
is_over_bits-requires-clause-operands c opened k node there =
    fault-known c.args.table.now c.loop-id.faults.keys c.args.order.now c.loop-id.id-index k c.loop-id.invariant node
    (operand-before c.args.table.now c.know_table.ensures c.args.order.now c.requires c.loop-id.id-index (record { 0 = 0 }) k c.loop-id-test.true opened node there)

pub loop-id-preserved : goal.loop-id-preserved
loop-id-preserved c =
    let t = c.args.table.now in
    elim c.if-not-is_over_bits.branch [
      | then-not-is_over_bits+in_ok-note w ↦
          fault-more t c.args.order.now c.loop-id.faults.keys c.loop-id.id-index (record { 0 = 0 }) c.loop-id-test.true c.loop-id.invariant c.if-not-is_over_bits.faults.keys
          (sym c.is_over_bits.ensures ∙ w.if-not-is_over_bits.true) (let noted = w.in_ok-note.ensures in cc)
      | else-not-is_over_bits w ↦
          fine-more t c.args.order.now c.loop-id.faults.keys c.loop-id.id-index (record { 0 = 0 }) c.loop-id-test.true c.loop-id.invariant c.if-not-is_over_bits.faults.keys
          (sym c.is_over_bits.ensures ∙ w.if-not-is_over_bits.false) cc
    ]
