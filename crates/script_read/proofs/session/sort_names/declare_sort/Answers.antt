use Rattle.std.proofs.Common.{ap, sym, ◌∙◌, subst}
use Rattle.smt_terms.specs.Sorts.{free_sort}
use Rattle.term_walk.specs.Walking.{GrowsTo}
use Rattle.script_terms.specs.Known.{with_sort}
use Rattle.script_terms.proofs.Grown.{grown_self, grown_sorts}
use Rattle.smt_values.specs.SortIds.{is_free, IsPlain}
use Rattle.script_read.specs.ShapeClauses.{named_at, counted_at}
use Rattle.script_terms.specs.Replies.{refused_seen}
use Rattle.script_read.specs.Steps.{one}
use Rattle.script_terms.proofs.Lexemes.{symbol_plain}
use Rattle.script_read.proofs.SessionSteps.{steps_refused, sort_arity_refused, sort_declared}
use Rattle.script_terms.proofs.Refusing.{refuses_as}
use Rattle.script_read.proofs.NewNames.{sort_declarable_refused, is_zero, is_not_zero}
use Rattle.script_terms.proofs.Refusing.{refused_at}
use Rattle.script_read.proofs.session.sort_names.declare_sort.Goals as goal

pub returns-in_err-check_new_sort_name-clause-step : goal.returns-in_err-check_new_sort_name-clause-step
returns-in_err-check_new_sort_name-clause-step c = λ s stands.
    steps_refused one c.args.table.now _ _ c.from_residual.result _ c.from_residual.ensures.1
    (sort_declarable_refused s.sofar.live (named_at c.args.forest.now.tokens c.args.name) _ (refused_seen c.in_err-check_new_sort_name.field-0.0) (c.in_err-check_new_sort_name.ensures.test c.args.table.now c.args.session.now.sofar.fresh s.sofar.live stands.shows))

pub returns-then-numeral-ne0-clause-step : goal.returns-then-numeral-ne0-clause-step
returns-then-numeral-ne0-clause-step c = λ s stands.
    refuses_as _ c.into.result c.fault.result c.into.ensures
    (sort_arity_refused c.args.table.now c.args.table.now c.args.session.now s stands (grown_self c.args.table.now) (named_at c.args.forest.now.tokens c.args.name) (counted_at c.args.forest.now.tokens c.args.arity)
    c.in_ok-check_new_sort_name.field-0 (c.in_ok-check_new_sort_name.ensures.test c.args.table.now c.args.session.now.sofar.fresh s.sofar.live stands.shows)
    (is_not_zero (counted_at c.args.forest.now.tokens c.args.arity).it (λ zero. c.if-numeral-ne0.true (c.numeral.ensures ∙ zero)))
    ∙ refused_at c.fault.result _ _ c.fault.ensures.cause c.fault.ensures.start)

pub declared_sort-requires : goal.declared_sort-requires
declared_sort-requires c =
    subst IsPlain (sym c.name.ensures) (symbol_plain c.args.forest.now.bytes c.args.forest.now.tokens c.args.name _ c.requires.read c.requires.name.symbol)

pub returns-clause-step : goal.returns-clause-step
returns-clause-step c = λ s stands.
    let grows : GrowsTo c.args.table.now c.declared_sort.new.self = grown_sorts c.args.table.now c.declared_sort.new.self _ c.in_ok-sort.ensures.grows c.in_ok-sort.ensures.symbols c.in_ok-sort.ensures.trees in
    sort_declared c.args.table.now c.declared_sort.new.self c.args.session.now s stands grows (named_at c.args.forest.now.tokens c.args.name) (counted_at c.args.forest.now.tokens c.args.arity)
    c.in_ok-check_new_sort_name.field-0 (c.in_ok-check_new_sort_name.ensures.test c.args.table.now c.args.session.now.sofar.fresh s.sofar.live stands.shows)
    c.in_ok-sort.sort c.bind_sort.new.self
    (is_zero (counted_at c.args.forest.now.tokens c.args.arity).it (sym c.numeral.ensures ∙ c.if-numeral-ne0.false))
    c.in_ok-sort.ensures.within
    (c.in_ok-sort.ensures.sort ∙ ap free_sort c.name.ensures)
    (c.in_ok-bind_sort.ensures ∙ ap (λ n. with_sort n c.in_ok-sort.sort c.args.session.now.sofar.scope) c.name-2.ensures)

pub returns-clause-command : goal.returns-clause-command
returns-clause-command c = (c.in_ok-sort.ensures.within, ap is_free c.in_ok-sort.ensures.sort)
