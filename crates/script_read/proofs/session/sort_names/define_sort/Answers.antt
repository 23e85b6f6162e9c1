use Rattle.std.proofs.Common.{ap, sym, ◌∙◌}
use Rattle.script_terms.specs.Known.{with_sort}
use Rattle.script_terms.specs.Places.{form_from, forms_from}
use Rattle.script_read.specs.ShapeClauses.{named_at}
use Rattle.script_terms.specs.Replies.{refused_seen}
use Rattle.script_terms.specs.SortForms.{sort_in}
use Rattle.script_read.specs.Steps.{no_command}
use Rattle.script_terms.proofs.Grown.{grown_self}
use Rattle.script_terms.proofs.Showing.{sorts_found}
use Rattle.script_read.proofs.SessionSteps.{steps_refused, refuses_whole, sort_parameters_refused, sort_refused, sort_defined}
use Rattle.script_terms.proofs.Refusing.{refuses_as}
use Rattle.script_read.proofs.NewNames.{sort_declarable_refused}
use Rattle.script_terms.proofs.Refusing.{refused_at}
use Rattle.script_read.proofs.session.sort_names.define_sort.Goals as goal

pub returns-in_err-check_new_sort_name-clause-step : goal.returns-in_err-check_new_sort_name-clause-step
returns-in_err-check_new_sort_name-clause-step c = λ s stands.
    steps_refused no_command c.args.table.now _ _ c.from_residual.result _ c.from_residual.ensures.1
    (sort_declarable_refused s.sofar.live (named_at c.args.forest.now.tokens c.args.name) _ (refused_seen c.in_err-check_new_sort_name.field-0.0) (c.in_err-check_new_sort_name.ensures.test c.args.table.now c.args.session.now.sofar.fresh s.sofar.live stands.shows))

pub returns-then-begins-clause-step : goal.returns-then-begins-clause-step
returns-then-begins-clause-step c = λ s stands.
    refuses_as _ c.into.result c.fault.result c.into.ensures
    (sort_parameters_refused c.args.table.now c.args.table.now c.args.session.now s stands (grown_self c.args.table.now) (named_at c.args.forest.now.tokens c.args.name) (forms_from c.args.forest.now.tokens c.args.parameters) (form_from c.args.forest.now.tokens c.args.sort)
    c.in_ok-check_new_sort_name.field-0 (c.in_ok-check_new_sort_name.ensures.test c.args.table.now c.args.session.now.sofar.fresh s.sofar.live stands.shows)
    _ _ (c.begins.ensures.yes c.if-begins.true).forms
    ∙ refused_at c.fault.result _ _ c.fault.ensures.cause c.fault.ensures.place)

pub returns-in_err-sort-clause-step : goal.returns-in_err-sort-clause-step
returns-in_err-sort-clause-step c = λ s stands.
    steps_refused no_command c.read_sort.new.table _ _ c.from_residual-in_err-sort.result c.in_err-sort.field-0.0 c.from_residual-in_err-sort.ensures.1
    (refuses_whole _ _ c.in_err-sort.field-0.0
    (λ e refused. sort_refused c.args.table.now c.args.table.now c.args.session.now s stands (grown_self c.args.table.now) (named_at c.args.forest.now.tokens c.args.name) (forms_from c.args.forest.now.tokens c.args.parameters) (form_from c.args.forest.now.tokens c.args.sort)
    c.in_ok-check_new_sort_name.field-0 (c.in_ok-check_new_sort_name.ensures.test c.args.table.now c.args.session.now.sofar.fresh s.sofar.live stands.shows)
    e (c.begins.ensures.no c.if-begins.false)
    (ap (λ known. sort_in known (form_from c.args.forest.now.tokens c.args.sort)) (sym (sorts_found c.args.table.now c.args.session.now.sofar.scope s.sofar.live stands.shows.sorts)) ∙ refused))
    c.in_err-sort.ensures.sort)

pub returns-clause-step : goal.returns-clause-step
returns-clause-step c = λ s stands.
    sort_defined c.args.table.now c.read_sort.new.table c.args.session.now s stands c.in_ok-sort.ensures.grows (named_at c.args.forest.now.tokens c.args.name) (forms_from c.args.forest.now.tokens c.args.parameters) (form_from c.args.forest.now.tokens c.args.sort)
    c.in_ok-check_new_sort_name.field-0 (c.in_ok-check_new_sort_name.ensures.test c.args.table.now c.args.session.now.sofar.fresh s.sofar.live stands.shows)
    c.in_ok-sort.sort c.bind_sort.new.self
    (c.begins.ensures.no c.if-begins.false)
    (ap (λ known. sort_in known (form_from c.args.forest.now.tokens c.args.sort)) (sym (sorts_found c.args.table.now c.args.session.now.sofar.scope s.sofar.live stands.shows.sorts)) ∙ c.in_ok-sort.ensures.sort)
    c.in_ok-sort.ensures.within
    (c.in_ok-bind_sort.ensures ∙ ap (λ n. with_sort n c.in_ok-sort.sort c.args.session.now.sofar.scope) c.name.ensures)
