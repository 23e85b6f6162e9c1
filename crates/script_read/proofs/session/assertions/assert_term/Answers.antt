use Rattle.std.proofs.Common.{refl, sym, ◌∙◌}
use Rattle.script_terms.specs.Places.{form_from}
use Rattle.script_read.specs.Script.{no_context}
use Rattle.script_read.specs.Steps.{one}
use Rattle.script_read.proofs.AssertionSteps.{no_locals, assertion_refused, asserted}
use Rattle.script_read.proofs.SessionSteps.{steps_refused, refuses_whole}
use Rattle.script_read.proofs.session.assertions.assert_term.Goals as goal

pub read_term-requires-clause-locals : goal.read_term-requires-clause-locals
read_term-requires-clause-locals c = (no_context, no_locals c.args.table.now c.args.session.now.sofar.fresh c.new-locals.result c.new-locals.ensures, refl)

pub returns-in_err-id-clause-step : goal.returns-in_err-id-clause-step
returns-in_err-id-clause-step c = λ s stands.
    steps_refused one c.read_term.new.table _ _ c.from_residual.result c.in_err-id.field-0.0 c.from_residual.ensures.1
    (refuses_whole _ _ c.in_err-id.field-0.0
    (λ e refused. assertion_refused c.args.table.now c.args.table.now c.args.session.now s stands (form_from c.args.forest.now.tokens c.args.i) e refused)
    (c.in_err-id.ensures.term no_context s.sofar.live stands.shows (no_locals c.args.table.now c.args.session.now.sofar.fresh c.new-locals.result c.new-locals.ensures) refl))

pub has_sort-requires-clause-node : goal.has_sort-requires-clause-node
has_sort-requires-clause-node c =
    (c.in_ok-id.ensures.term no_context c.requires.known.0.sofar.live c.requires.known.1.shows (no_locals c.args.table.now c.args.session.now.sofar.fresh c.new-locals.result c.new-locals.ensures) refl).0.node

pub returns-clause-step : goal.returns-clause-step
returns-clause-step c = λ s stands.
    asserted c.args.table.now c.read_term.new.table c.args.session.now s stands (form_from c.args.forest.now.tokens c.args.i) c.in_ok-id.id c.read_term.new.sofar.scope c.read_term.new.sofar.fresh
    (c.in_ok-id.ensures.term no_context s.sofar.live stands.shows (no_locals c.args.table.now c.args.session.now.sofar.fresh c.new-locals.result c.new-locals.ensures) refl).1
    _ (sym c.has_sort.ensures.answer ∙ c.if-not-has_sort.false) refl

pub returns-clause-command : goal.returns-clause-command
returns-clause-command c =
    (c.in_ok-id.ensures.term no_context c.requires.known.0.sofar.live c.requires.known.1.shows (no_locals c.args.table.now c.args.session.now.sofar.fresh c.new-locals.result c.new-locals.ensures) refl).0.node
