use Rattle.std.proofs.Common.{ap, sym, ◌∙◌}
use Rattle.std.specs.Prelude.{is_some}
use Rattle.smt_lex.specs.Names.{is_reserved_for_declaring}
use Rattle.script_terms.specs.Known.{find}
use Rattle.script_read.specs.ShapeClauses.{named_at}
use Rattle.script_terms.proofs.NameFacts.{not_theory}
use Rattle.script_terms.proofs.Refusing.{refused_at}
use Rattle.script_read.proofs.NewNames.{live_refused, new_passed}
use Rattle.script_read.proofs.session.new_names.check_new_name.Goals as goal

pub returns-then-is_some-clause-test : goal.returns-then-is_some-clause-test
returns-then-is_some-clause-test c = λ t supply live shows.
    live_refused live (named_at c.args.forest.now.tokens c.args.name) t c.args.scope.now shows.terms
    (ap is_reserved_for_declaring (sym c.name-text.ensures) ∙ sym c.is_reserved_for_declaring.ensures ∙ c.if-is_reserved_for_declaring.false)
    (ap (λ n. is_some (find c.args.scope.now.terms n)) (sym c.name-text.ensures) ∙ ap is_some (sym c.find.ensures) ∙ sym c.is_some.ensures ∙ c.if-is_some.true)
    ∙ refused_at c.fault-then-is_some.result _ _ c.fault-then-is_some.ensures.cause c.fault-then-is_some.ensures.start

pub returns-clause-test : goal.returns-clause-test
returns-clause-test c = λ t supply live shows.
    new_passed live (named_at c.args.forest.now.tokens c.args.name) t c.args.scope.now shows.terms
    (ap is_reserved_for_declaring (sym c.name-text.ensures) ∙ sym c.is_reserved_for_declaring.ensures ∙ c.if-is_reserved_for_declaring.false)
    (ap (λ n. is_some (find c.args.scope.now.terms n)) (sym c.name-text.ensures) ∙ ap is_some (sym c.find.ensures) ∙ sym c.is_some.ensures ∙ c.if-is_some.false)

pub returns-clause-own : goal.returns-clause-own
returns-clause-own c = not_theory _ (ap is_reserved_for_declaring (sym c.name-text.ensures) ∙ sym c.is_reserved_for_declaring.ensures ∙ c.if-is_reserved_for_declaring.false)
