use Rattle.std.proofs.Common.{sym, ◌∙◌, arith}
use Rattle.simplify.proofs.JoinedNodes.{clash-there, clash-nowhere}
use Rattle.simplify.proofs.junctions.clash.Goals as goal

pub returns-then-is_clash : goal.returns-then-is_clash
returns-then-is_clash c = clash-there c.args.table.now c.args.neutral c.as_slice-ids.result.now c.args.operands.now.keys c.as_slice-ids.ensures.keys c.loop-id.id-index (record { 0 = 0 }) c.loop-id-test.true (sym c.is_clash.ensures ∙ c.if-is_clash.true)

pub returns : goal.returns
returns c =
    let past = c.loop-id-test.false in
    clash-nowhere c.args.table.now c.args.neutral c.as_slice-ids.result.now c.args.operands.now.keys c.as_slice-ids.ensures.keys c.loop-id.id-index (omega arith) c.loop-id.invariant.none
