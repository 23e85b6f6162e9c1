use Rattle.std.proofs.Common.{rules}
use Rattle.smt_io.proofs.Transfers.{sent_more, NeverFalls-trans}
use Rattle.smt_io.proofs.transfer.write_whole.Goals as goal

pub loop-done-preserved : goal.loop-done-preserved
loop-done-preserved g c =
    let before = c.loop-done.invariant in
    let written = c.in_ok-done.ensures in
    record {
      within = search rules;
      sent = sent_more _ _ _ c.args.bytes.now c.loop-done.done c.in_ok-done.field-0 before.sent written.bytes;
      flushed = search rules;
      counts = NeverFalls-trans _ _ _ before.counts written.counts;
    }
