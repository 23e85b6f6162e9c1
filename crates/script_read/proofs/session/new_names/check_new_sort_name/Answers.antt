use Rattle.std.proofs.Common.{ap, sym, ◌∙◌}
use Rattle.std.specs.Prelude.{is_some}
use Rattle.smt_lex.specs.Names.{is_reserved_for_sorts}
use Rattle.script_terms.specs.Known.{find}
use Rattle.script_read.specs.ShapeClauses.{named_at}
use Rattle.script_terms.proofs.Refusing.{refused_at}
use Rattle.script_read.proofs.NewNames.{live_sort_refused, new_sort_passed}
use Rattle.script_read.proofs.session.new_names.check_new_sort_name.Goals as goal

pub returns-then-is_some-clause-test : goal.returns-then-is_some-clause-test
returns-then-is_some-clause-test c = λ t supply live shows.
    live_sort_refused live (named_at c.args.forest.now.tokens c.args.name) t c.args.scope.now shows.sorts
    (ap is_reserved_for_sorts (sym c.name-text.ensures) ∙ sym c.is_reserved_for_sorts.ensures ∙ c.if-is_reserved_for_sorts.false)
    (ap (λ n. is_some (find c.args.scope.now.sorts n)) (sym c.name-text.ensures) ∙ ap is_some (sym c.find_sort.ensures) ∙ sym c.is_some.ensures ∙ c.if-is_some.true)
    ∙ refused_at c.fault-then-is_some.result _ _ c.fault-then-is_some.ensures.cause c.fault-then-is_some.ensures.start

pub returns-clause-test : goal.returns-clause-test
returns-clause-test c = λ t supply live shows.
    new_sort_passed live (named_at c.args.forest.now.tokens c.args.name) t c.args.scope.now shows.sorts
    (ap is_reserved_for_sorts (sym c.name-text.ensures) ∙ sym c.is_reserved_for_sorts.ensures ∙ c.if-is_reserved_for_sorts.false)
    (ap (λ n. is_some (find c.args.scope.now.sorts n)) (sym c.name-text.ensures) ∙ ap is_some (sym c.find_sort.ensures) ∙ sym c.is_some.ensures ∙ c.if-is_some.false)
