use Rattle.std.proofs.Common.{◌∙◌, ap, subst}
use Rattle.smt_io.specs.Told.{with_bytes}
use Rattle.smt_io.proofs.Prefixes.{OnErr-from, SentPrefix}
use Rattle.smtrw_answers.proofs.ErrorLines.{first_part, second_part, third_part, all_parts}
use Rattle.smtrw_answers.proofs.lines.send_unread.Goals as goal

pub returns-in_err-send_all-clause-prefix : goal.returns-in_err-send_all-clause-prefix
returns-in_err-send_all-clause-prefix g c =
    let f = g.E.Sink.sent in
    OnErr-from c.from_residual.result
    (first_part c.args.name.now (f c.args.err.now) (f c.send_all.new.sink) (f c.send_all.new.sink) (f c.send_all.new.sink) c.in_err-send_all.ensures.prefix)

pub returns-in_err-send_all-2-clause-prefix : goal.returns-in_err-send_all-2-clause-prefix
returns-in_err-send_all-2-clause-prefix g c =
    let f = g.E.Sink.sent in
    let sent = subst (λ xs. SentPrefix (f c.send_all.new.sink) (f c.send_all-2.new.sink) xs) c.as_bytes.ensures.value c.in_err-send_all-2.ensures.prefix in
    OnErr-from c.from_residual-in_err-send_all-2.result
    (second_part c.args.name.now (f c.args.err.now) (f c.send_all.new.sink) (f c.send_all-2.new.sink) (f c.send_all-2.new.sink) c.in_ok-send_all.ensures.ok sent)

pub returns-in_err-send_all-3-clause-prefix : goal.returns-in_err-send_all-3-clause-prefix
returns-in_err-send_all-3-clause-prefix g c =
    let f = g.E.Sink.sent in
    let sent = c.in_ok-send_all-2.ensures.ok ∙ ap (with_bytes (f c.send_all.new.sink)) c.as_bytes.ensures.value in
    OnErr-from c.from_residual-in_err-send_all-3.result
    (third_part c.args.name.now (f c.args.err.now) (f c.send_all.new.sink) (f c.send_all-2.new.sink) (f c.send_all-3.new.sink) c.in_ok-send_all.ensures.ok sent c.in_err-send_all-3.ensures.prefix)

pub returns-clause-ok : goal.returns-clause-ok
returns-clause-ok g c =
    let f = g.E.Sink.sent in
    let sent = c.in_ok-send_all-2.ensures.ok ∙ ap (with_bytes (f c.send_all.new.sink)) c.as_bytes.ensures.value in
    all_parts c.args.name.now (f c.args.err.now) (f c.send_all.new.sink) (f c.send_all-2.new.sink) (f c.send_all-3.new.sink) c.in_ok-send_all.ensures.ok sent c.in_ok-send_all-3.ensures.ok
