use Rattle.std.proofs.Common.{◌∙◌}
use Rattle.smtrw_run.proofs.LinkedWays.{links_refused, links_written}
use Rattle.smtrw_run.proofs.Passages.{script_last}
use Rattle.smtrw_run.proofs.linking.clause_text.Goals as goal

pub link_check-requires-clause-numbers : goal.link_check-requires-clause-numbers
link_check-requires-clause-numbers c = c.requires.is.numbers

pub link_check-requires-clause-printable : goal.link_check-requires-clause-printable
link_check-requires-clause-printable c = c.requires.is.carried.ready.printable

pub link_check-requires-clause-first : goal.link_check-requires-clause-first
link_check-requires-clause-first c = c.requires.is.way.leads.within.0

pub link_check-requires-clause-last : goal.link_check-requires-clause-last
link_check-requires-clause-last c = script_last c.requires.text c.requires.passes c.args.check c.requires.rules c.args.passage.now c.requires.is c.requires.unruled

pub returns-in_err-bytes : goal.returns-in_err-bytes
returns-in_err-bytes c = λ b ps rules is unruled. links_refused b ps c.args.check rules c.args.passage.now is unruled c.in_err-bytes.field-0.0 c.from_residual.result c.in_err-bytes.ensures.fault c.from_residual.ensures.1

pub returns : goal.returns
returns c = λ b ps rules is unruled.
    links_written b ps c.args.check rules c.args.passage.now is unruled c.linking_keeps_its_promise.ensures c.in_ok-bytes.ensures.clauses c.of.result (c.of.ensures ∙ c.in_ok-bytes.ensures.text)
