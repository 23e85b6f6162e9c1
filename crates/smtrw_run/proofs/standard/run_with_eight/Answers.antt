use Rattle.rule_book.specs.EightRules.{eight_names}
use Rattle.smtrw_run.proofs.Unbegun.{unbegun_by}
use Rattle.smtrw_run.proofs.standard.run_with_eight.Goals as goal

pub returns-in-Err : goal.returns-in-Err
returns-in-Err g c =
    let unsent = c.in-Err.ensures.unsent in
    let unsaid = c.in-Err.ensures.unsaid in
    let begun = c.run_by_book.new.err in
    unbegun_by eight_names _ _ _ _ _ _ _ (record { sent = g.E.Sink.sent begun; flushed = g.E.Sink.flushed begun; faults = g.E.Sink.faults begun }) _ _
    (λ i. record { sent = g.O.Sink.sent (unsent i); flushed = g.O.Sink.flushed (unsent i); faults = g.O.Sink.faults (unsent i) })
    (λ i. record { sent = g.E.Sink.sent (unsaid i); flushed = g.E.Sink.flushed (unsaid i); faults = g.E.Sink.faults (unsaid i) })
    c.unbegun-status.ensures c.complain.ensures.silent c.complain.ensures.prefix c.complain.ensures.whole
