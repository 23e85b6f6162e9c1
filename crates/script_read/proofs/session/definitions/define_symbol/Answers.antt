use Rattle.std.proofs.Common.{[], ap, sym, ◌∙◌, subst}
use Rattle.smt_lex.specs.Forms.{Form, Forms}
use Rattle.smt_values.specs.SortIds.{sort_at}
use Rattle.script_terms.specs.Bound.{variables_seen}
use Rattle.script_terms.specs.Places.{form_from, forms_from}
use Rattle.script_terms.specs.Replies.{refused_seen, Refuses}
use Rattle.script_read.specs.Script.{Step}
use Rattle.script_read.specs.ShapeClauses.{named_at}
use Rattle.script_read.specs.Steps.{Steps, header_in, no_command}
use Rattle.script_read.proofs.DefinitionSteps.{header_refused, header_read}
use Rattle.script_read.proofs.NewNames.{declarable_refused}
use Rattle.script_read.proofs.SessionSteps.{steps_refused, refuses_whole, stands_grown}
use Rattle.script_terms.proofs.Showing.{sorts_found}
use Rattle.script_read.proofs.session.definitions.define_symbol.Goals as goal

pub returns-in_err-check_new_name-clause-step : goal.returns-in_err-check_new_name-clause-step
returns-in_err-check_new_name-clause-step c = λ s stands.
    steps_refused no_command c.args.table.now _ _ c.from_residual.result _ c.from_residual.ensures.1
    (declarable_refused s.sofar.live (named_at c.args.forest.now.tokens c.args.name) _ (refused_seen c.in_err-check_new_name.field-0.0) (c.in_err-check_new_name.ensures.test c.args.table.now c.args.session.now.sofar.fresh s.sofar.live stands.shows))

pub returns-in_err-header-clause-step : goal.returns-in_err-header-clause-step
returns-in_err-header-clause-step c = λ s stands.
    let parameters : Forms = forms_from c.args.forest.now.tokens c.args.parameters in
    let to : Form = form_from c.args.forest.now.tokens c.args.sort in
    steps_refused no_command c.read_header.new.table _ _ c.from_residual-in_err-header.result c.in_err-header.field-0.0 c.from_residual-in_err-header.ensures.1
    (refuses_whole _ _ c.in_err-header.field-0.0
    (λ e refused. header_refused s (named_at c.args.forest.now.tokens c.args.name) parameters to (form_from c.args.forest.now.tokens c.args.body)
    c.in_ok-check_new_name.field-0 (c.in_ok-check_new_name.ensures.test c.args.table.now c.args.session.now.sofar.fresh s.sofar.live stands.shows)
    e (ap (λ known. header_in known parameters to) (sym (sorts_found c.args.table.now c.args.session.now.sofar.scope s.sofar.live stands.shows.sorts)) ∙ refused))
    c.in_err-header.ensures.header)

pub define_body-requires-clause-known : goal.define_body-requires-clause-known
define_body-requires-clause-known c =
    (c.requires.known.0, stands_grown c.args.table.now c.read_header.new.table c.args.session.now c.requires.known.0 c.in_ok-header.ensures.grows c.requires.known.1)

pub returns-in_err-define_body-clause-step : goal.returns-in_err-define_body-clause-step
returns-in_err-define_body-clause-step c = λ s stands.
    let parameters : Forms = forms_from c.args.forest.now.tokens c.args.parameters in
    let to : Form = form_from c.args.forest.now.tokens c.args.sort in
    steps_refused no_command c.define_body.new.table _ _ c.from_residual-in_err-define_body.result c.in_err-define_body.field-0.0 c.from_residual-in_err-define_body.ensures.1
    (subst (λ (step : Step). Refuses step c.in_err-define_body.field-0.0)
    (sym (header_read s (named_at c.args.forest.now.tokens c.args.name) parameters to (form_from c.args.forest.now.tokens c.args.body)
    c.in_ok-check_new_name.field-0 (c.in_ok-check_new_name.ensures.test c.args.table.now c.args.session.now.sofar.fresh s.sofar.live stands.shows)
    (variables_seen c.read_header.new.table c.args.forest.now.tokens c.in_ok-header.header.parameters.items) (sort_at c.read_header.new.table.sorts c.in_ok-header.header.sort)
    (ap (λ known. header_in known parameters to) (sym (sorts_found c.args.table.now c.args.session.now.sofar.scope s.sofar.live stands.shows.sorts)) ∙ c.in_ok-header.ensures.header)))
    (c.in_err-define_body.ensures.step s (stands_grown c.args.table.now c.read_header.new.table c.args.session.now s c.in_ok-header.ensures.grows stands)))

pub returns-clause-step : goal.returns-clause-step
returns-clause-step c = λ s stands.
    let parameters : Forms = forms_from c.args.forest.now.tokens c.args.parameters in
    let to : Form = form_from c.args.forest.now.tokens c.args.sort in
    subst (λ (step : Step). Steps c.define_body.new.table c.define_body.new.session [] step)
    (sym (header_read s (named_at c.args.forest.now.tokens c.args.name) parameters to (form_from c.args.forest.now.tokens c.args.body)
    c.in_ok-check_new_name.field-0 (c.in_ok-check_new_name.ensures.test c.args.table.now c.args.session.now.sofar.fresh s.sofar.live stands.shows)
    (variables_seen c.read_header.new.table c.args.forest.now.tokens c.in_ok-header.header.parameters.items) (sort_at c.read_header.new.table.sorts c.in_ok-header.header.sort)
    (ap (λ known. header_in known parameters to) (sym (sorts_found c.args.table.now c.args.session.now.sofar.scope s.sofar.live stands.shows.sorts)) ∙ c.in_ok-header.ensures.header)))
    (c.in_ok-define_body.ensures.step s (stands_grown c.args.table.now c.read_header.new.table c.args.session.now s c.in_ok-header.ensures.grows stands))
