use Rattle.std.proofs.Common.{◌∙◌}
use Rattle.smt_io.proofs.Prefixes.{OnErr-from, SentPrefix-behind, SentPrefix-whole, sent_both, lent_bytes}
use Rattle.smt_io.proofs.pieces.send_pieces.Goals as goal

pub returns-in_err-write_whole-clause-prefix : goal.returns-in_err-write_whole-clause-prefix
returns-in_err-write_whole-clause-prefix g c =
    let whole = lent_bytes (λ piece. piece.items) _ _ _ _ _ c.deref.ensures.value c.deref-2.ensures.value c.text.view_is in
    OnErr-from c.from_residual-in_err-write_whole.result
    (SentPrefix-behind _ _ _ _ _ _ whole c.in_ok-write_pieces.ensures.ok c.in_err-write_whole.ensures.prefix)

pub returns-in_err-flush-clause-prefix : goal.returns-in_err-flush-clause-prefix
returns-in_err-flush-clause-prefix g c =
    let whole = lent_bytes (λ piece. piece.items) _ _ _ _ _ c.deref.ensures.value c.deref-2.ensures.value c.text.view_is in
    OnErr-from c.from_residual-in_err-flush.result
    (SentPrefix-whole _ _ _ (c.in_err-flush.ensures.bytes ∙ sent_both _ _ _ _ _ _ whole c.in_ok-write_pieces.ensures.ok c.in_ok-write_whole.ensures.ok))

pub returns-clause-ok : goal.returns-clause-ok
returns-clause-ok g c =
    let whole = lent_bytes (λ piece. piece.items) _ _ _ _ _ c.deref.ensures.value c.deref-2.ensures.value c.text.view_is in
    c.in_ok-flush.ensures.bytes ∙ sent_both _ _ _ _ _ _ whole c.in_ok-write_pieces.ensures.ok c.in_ok-write_whole.ensures.ok
