use Rattle.std.proofs.Common.{Ok, ap, sym, ◌∙◌}
use Rattle.smt_values.specs.SortIds.{sort_at}
use Rattle.script_terms.specs.Places.{form_from, forms_from}
use Rattle.script_terms.specs.Known.{sorts_known}
use Rattle.script_terms.specs.SortForms.{sort_in}
use Rattle.script_read.proofs.DefinitionSteps.{header_sort_refused, header_is, variables_stay}
use Rattle.script_read.proofs.SessionSteps.{follows_refused, refuses_whole}
use Rattle.script_terms.proofs.Showing.{known_alike}
use Rattle.script_read.proofs.session.definitions.read_header.Goals as goal

pub returns-in_err-sort-clause-header : goal.returns-in_err-sort-clause-header
returns-in_err-sort-clause-header c =
    follows_refused _ _ c.from_residual-in_err-sort.result c.in_err-sort.field-0.0 c.from_residual-in_err-sort.ensures.1
    (refuses_whole _ _ c.in_err-sort.field-0.0
    (λ e refused. header_sort_refused (sorts_known c.args.table.now c.args.scope.now) (forms_from c.args.forest.now.tokens c.args.parameters) (form_from c.args.forest.now.tokens c.args.sort) _ c.in_ok-parameters.ensures.variables e
    (ap (λ known. sort_in known (form_from c.args.forest.now.tokens c.args.sort)) (sym (known_alike c.args.table.now c.read_variables.new.table c.args.scope.now c.in_ok-parameters.ensures.grows c.requires.scope)) ∙ refused))
    c.in_err-sort.ensures.sort)

pub returns-clause-header : goal.returns-clause-header
returns-clause-header c =
    header_is (sorts_known c.args.table.now c.args.scope.now) (forms_from c.args.forest.now.tokens c.args.parameters) (form_from c.args.forest.now.tokens c.args.sort) _ c.in_ok-parameters.ensures.variables (sort_at c.read_sort.new.table.sorts c.in_ok-sort.sort)
    (ap (λ known. sort_in known (form_from c.args.forest.now.tokens c.args.sort)) (sym (known_alike c.args.table.now c.read_variables.new.table c.args.scope.now c.in_ok-parameters.ensures.grows c.requires.scope)) ∙ c.in_ok-sort.ensures.sort)
    ∙ ap (λ xs. Ok (xs, sort_at c.read_sort.new.table.sorts c.in_ok-sort.sort)) (sym (variables_stay c.read_variables.new.table c.read_sort.new.table c.args.forest.now.tokens c.in_ok-parameters.parameters.items c.in_ok-sort.ensures.grows c.in_ok-parameters.ensures.within))
