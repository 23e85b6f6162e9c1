use Rattle.std.proofs.Common.{Ok, Err, map, sym, ap, ◌∙◌}
use Rattle.smt_lex.specs.Names.{is_theory_name, is_among}
use Rattle.script_terms.specs.declared.causes.Cause.TheVariants.{Redeclared, ReservedName}
use Rattle.script_terms.specs.Bound.{name_at}
use Rattle.script_terms.specs.Places.{form_from}
use Rattle.script_terms.proofs.Stepped.{fault_is}
use Rattle.script_terms.proofs.NamesOfLets.{binds_reserved, binds_again, binds_new, among_reversed}
use Rattle.script_terms.proofs.terms.let_names.binding_term.Goals as goal

pub returns-then-is_theory_name-clause-name : goal.returns-then-is_theory_name-clause-name
returns-then-is_theory_name-clause-name c =
    binds_reserved _ _ (form_from c.args.forest.now.tokens c.in-Some.name) (form_from c.args.forest.now.tokens c.in-Some.term) (sym c.in-Some.ensures.forms) _ (c.is_symbol.ensures.yes c.if-not-is_symbol.false)
    (ap is_theory_name (sym c.name.ensures) ∙ sym c.is_theory_name.ensures ∙ c.if-is_theory_name.true)
    ∙ ap Err (sym (fault_is c.fault.result ReservedName _ c.fault.ensures.cause c.fault.ensures.place))

pub returns-then-has-clause-name : goal.returns-then-has-clause-name
returns-then-has-clause-name c =
    binds_again _ _ (form_from c.args.forest.now.tokens c.in-Some.name) (form_from c.args.forest.now.tokens c.in-Some.term) (sym c.in-Some.ensures.forms) _ (c.is_symbol.ensures.yes c.if-not-is_symbol.false)
    (ap is_theory_name (sym c.name.ensures) ∙ sym c.is_theory_name.ensures ∙ c.if-is_theory_name.false)
    (among_reversed (map (λ p. p.0) c.args.names.now) (name_at c.args.forest.now.tokens c.in-Some.name)
    ∙ ap (is_among (map (λ p. p.0) c.args.names.now)) (sym c.name-2.ensures) ∙ sym c.has.ensures ∙ c.if-has.true)
    ∙ ap Err (sym (fault_is c.fault-then-has.result Redeclared _ c.fault-then-has.ensures.cause c.fault-then-has.ensures.place))

pub returns-clause-name : goal.returns-clause-name
returns-clause-name c =
    binds_new _ _ (form_from c.args.forest.now.tokens c.in-Some.name) (form_from c.args.forest.now.tokens c.in-Some.term) (sym c.in-Some.ensures.forms) _ (c.is_symbol.ensures.yes c.if-not-is_symbol.false)
    (ap is_theory_name (sym c.name.ensures) ∙ sym c.is_theory_name.ensures ∙ c.if-is_theory_name.false)
    (among_reversed (map (λ p. p.0) c.args.names.now) (name_at c.args.forest.now.tokens c.in-Some.name)
    ∙ ap (is_among (map (λ p. p.0) c.args.names.now)) (sym c.name-2.ensures) ∙ sym c.has.ensures ∙ c.if-has.false)
    ∙ (let same = c.in-Some.ensures.within.next in λ i. Ok (name_at c.args.forest.now.tokens (same i), form_from c.args.forest.now.tokens c.in-Some.term))

pub returns-clause-own : goal.returns-clause-own
returns-clause-own c =
    ap is_theory_name (ap (name_at c.args.forest.now.tokens) (sym c.in-Some.ensures.within.next) ∙ sym c.name.ensures) ∙ sym c.is_theory_name.ensures ∙ c.if-is_theory_name.false
