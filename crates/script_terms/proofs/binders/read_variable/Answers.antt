use Rattle.std.proofs.Common.{Err, ap, sym, ◌∙◌}
use Rattle.smt_values.specs.SortIds.{sort_at}
use Rattle.script_terms.specs.BinderClauses.{binder_seen}
use Rattle.script_terms.specs.Bound.{name_at, variable_seen}
use Rattle.script_terms.specs.Known.{sorts_known}
use Rattle.script_terms.specs.Places.{form_from}
use Rattle.script_terms.specs.SortForms.{sort_in}
use Rattle.script_terms.specs.Variables.{variable_in}
use Rattle.script_terms.proofs.BinderReading.{variable-pair, sorted-refused, sorted-not, sorted-well}
use Rattle.script_terms.proofs.SortReading.{follows-refused, follows-fail}
use Rattle.script_terms.proofs.binders.read_variable.Goals as goal

pub returns-in_err-check_name-clause-variable : goal.returns-in_err-check_name-clause-variable
returns-in_err-check_name-clause-variable c earlier same =
    let ts = c.args.forest.now.tokens in
    let b = binder_seen c.args.binder in
    let live = sorts_known c.args.table.now c.args.scope.now in
    let f = form_from ts c.args.i in
    let x = form_from ts c.in-Some.name in
    let s = form_from ts c.in-Some.written in
    follows-refused (variable_in b live earlier f) (variable_seen c.args.table.now ts) c.in_err-check_name.field-0.0 c.from_residual.result c.from_residual.ensures.1
    (variable-pair b live earlier f x s c.in-Some.ensures.forms ∙ c.in_err-check_name.ensures.new earlier same b live s)

pub returns-in_err-sort-clause-variable : goal.returns-in_err-sort-clause-variable
returns-in_err-sort-clause-variable c earlier same =
    let ts = c.args.forest.now.tokens in
    let b = binder_seen c.args.binder in
    let live = sorts_known c.args.table.now c.args.scope.now in
    let f = form_from ts c.args.i in
    let x = form_from ts c.in-Some.name in
    let s = form_from ts c.in-Some.written in
    follows-fail (variable_in b live earlier f) (variable_seen c.read_sort.new.table ts) (sort_in live s) (sort_at c.read_sort.new.table.sorts) c.in_err-sort.field-0.0 c.from_residual-in_err-sort.result c.from_residual-in_err-sort.ensures.1 c.in_err-sort.ensures.sort
    (λ e sort.
    variable-pair b live earlier f x s c.in-Some.ensures.forms
    ∙ c.in_ok-check_name.ensures.new earlier same b live s
    ∙ sorted-refused b live s (name_at ts c.in-Some.name) e sort)

pub returns-then-not-may_have-clause-variable : goal.returns-then-not-may_have-clause-variable
returns-then-not-may_have-clause-variable c earlier same =
    let ts = c.args.forest.now.tokens in
    let b = binder_seen c.args.binder in
    let live = sorts_known c.args.table.now c.args.scope.now in
    let f = form_from ts c.args.i in
    let x = form_from ts c.in-Some.name in
    let s = form_from ts c.in-Some.written in
    variable-pair b live earlier f x s c.in-Some.ensures.forms
    ∙ c.in_ok-check_name.ensures.new earlier same b live s
    ∙ sorted-not b live s (name_at ts c.in-Some.name) (sort_at c.read_sort.new.table.sorts c.in_ok-sort.sort) c.in_ok-sort.ensures.sort (sym c.may_have.ensures ∙ c.if-not-may_have.true)
    ∙ sym (ap Err (λ i. record { cause = c.fault.ensures.cause i; place = c.fault.ensures.place i }))

pub returns-clause-variable : goal.returns-clause-variable
returns-clause-variable c earlier same =
    let ts = c.args.forest.now.tokens in
    let b = binder_seen c.args.binder in
    let live = sorts_known c.args.table.now c.args.scope.now in
    let f = form_from ts c.args.i in
    let x = form_from ts c.in-Some.name in
    let s = form_from ts c.in-Some.written in
    variable-pair b live earlier f x s c.in-Some.ensures.forms
    ∙ c.in_ok-check_name.ensures.new earlier same b live s
    ∙ sorted-well b live s (name_at ts c.in-Some.name) (sort_at c.read_sort.new.table.sorts c.in_ok-sort.sort) c.in_ok-sort.ensures.sort (sym c.may_have.ensures ∙ c.if-not-may_have.false)
