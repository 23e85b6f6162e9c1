use Rattle.std.proofs.Common.{length, ◌-◌, ◌≡◌, ◌≤◌, take}
use Rattle.smt_io.specs.Counts.{NeverFalls}
use Rattle.smt_io.specs.Told.{with_bytes}
use Rattle.smt_io.proofs.transfer.write_whole.Given as goal

abbrev pub invariant-loop-done : goal.invariant-loop-done
invariant-loop-done g l = record {
  within : l.done ≤ length l.bytes;
  sent : g.S.Sink.sent l.sink ≡ with_bytes (g.S.Sink.sent l.fn.sink) (take l.done l.bytes);
  flushed : g.S.Sink.flushed l.sink ≡ g.S.Sink.flushed l.fn.sink;
  counts : NeverFalls (g.S.Sink.faults l.fn.sink) (g.S.Sink.faults l.sink);
}

abbrev pub decreases-loop-done : goal.decreases-loop-done
decreases-loop-done g l = length l.bytes - l.done
