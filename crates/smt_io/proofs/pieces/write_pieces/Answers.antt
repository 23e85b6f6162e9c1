use Rattle.smt_io.proofs.Prefixes.{OnErr-from, SentPrefix-piece}
use Rattle.smt_io.proofs.pieces.write_pieces.Goals as goal

pub returns-in_err-write_whole-clause-prefix : goal.returns-in_err-write_whole-clause-prefix
returns-in_err-write_whole-clause-prefix g c =
    OnErr-from c.from_residual.result
    (SentPrefix-piece (λ piece. piece.items) c.args.pieces.now c.loop-piece.piece-index c.piece-item.result c.deref.result.now _ _ _
    c.loop-piece-test.true c.piece-item.is c.deref.ensures.value c.loop-piece.invariant.sent c.in_err-write_whole.ensures.prefix)
