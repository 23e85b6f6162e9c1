use Rattle.std.proofs.Common.{◌≡◌, take}
use Rattle.std.specs.List.{flat_map}
use Rattle.smt_io.specs.Counts.{NeverFalls}
use Rattle.smt_io.specs.Told.{with_bytes}
use Rattle.smt_io.proofs.pieces.write_pieces.Given as goal

abbrev pub invariant-loop-piece : goal.invariant-loop-piece
invariant-loop-piece g l = record {
  sent : g.S.Sink.sent l.sink ≡ with_bytes (g.S.Sink.sent l.fn.sink) (flat_map (λ piece. piece.items) (take l.piece-index l.pieces));
  counts : NeverFalls (g.S.Sink.faults l.fn.sink) (g.S.Sink.faults l.sink);
}
