use Rattle.std.proofs.Common.{◌≡◌, ◌==◌, true, List, length, vec_len, refl, ap, sym, ◌∙◌, subst, arith}
use Rattle.smt_terms.specs.declared.ids.NodeId.{NodeId}
use Rattle.smt_terms.specs.Fresh.{Supply}
use Rattle.smt_terms.specs.SubstLaws.{GivesNone, names_within}
use Rattle.smt_terms.specs.Term.{Term, quantified}
use Rattle.term_table.specs.Formulas.{tree}
use Rattle.term_subst.specs.Substituting.{NeverGivesGained}
use Rattle.term_subst.proofs.Gaining.{none-gained}
use Rattle.normal_forms.specs.Quantifiers.{not_bool, over_left, substitute_each}
use Rattle.normal_forms.specs.Shape.{variables_of, quantifier_seen}
use Rattle.quantifier_forms.specs.Variables.{AreVariables}
use Rattle.quantifier_forms.proofs.Bodies.{quantified-formula}
use Rattle.quantifier_forms.proofs.Stands.{same-number, number-same}
use Rattle.quantifier_forms.proofs.Variables.{none-named, some-named, variables-stay}
use Rattle.boolean_quantifiers.proofs.Cases.{work-stays}
use Rattle.boolean_quantifiers.proofs.Expansions.{bindable-left, over-none, over-some}
use Rattle.boolean_quantifiers.proofs.SelfNodes.{over-spared, spared-later}
use Rattle.boolean_quantifiers.proofs.self_substitution.solve_quantified.Goals as goal

pub returns-then-is_empty-clause-term : goal.returns-then-is_empty-clause-term
returns-then-is_empty-clause-term c =
    let t = c.args.table.now in
    let new = c.substitute_each.new.table in
    let u = tree t c.args.id in
    let q = quantifier_seen c.is_universal-universal.result in
    let xs = variables_of u in
    let are = subst (λ (ks : List NodeId). AreVariables t ks xs) (sym c.deref.ensures.value) c.in_ok-variables.ensures in
    let kept = c.in_ok-left.ensures xs (variables-stay t new c.deref-2.result.now xs c.in_ok-form.ensures.grows (subst (λ (ks : List NodeId). AreVariables t ks xs) (sym c.deref-2.ensures.value) c.in_ok-variables.ensures)) in
    let zero : vec_len c.in_ok-left.left ≡ 0 = same-number (vec_len c.in_ok-left.left) 0 (sym c.is_empty.ensures ∙ c.if-is_empty.true) in
    let empty = none-named new c.in_ok-left.left.items (not_bool xs) kept (let count = c.in_ok-left.left.ok.0 in omega (arith, count)) in
    let r = substitute_each q xs (tree t c.args.body, c.args.fresh.now) in
    c.in_ok-form.ensures.term xs are
    ∙ (λ i. (sym (over-none q (not_bool xs) r.0 empty) i, r.1))
    ∙ (λ i. let s : Term × Supply = substitute_each (quantifier_seen (c.is_universal-universal.ensures i)) xs (tree t c.args.body, c.args.fresh.now) in (over_left (quantifier_seen (c.is_universal-universal.ensures i)) (not_bool xs) s.0, s.1))

pub quantify-requires-clause-variables : goal.quantify-requires-clause-variables
quantify-requires-clause-variables c =
    let t = c.args.table.now in
    let new = c.substitute_each.new.table in
    let u = tree t c.args.id in
    let xs = variables_of u in
    let kept = c.in_ok-left.ensures xs (variables-stay t new c.deref-2.result.now xs c.in_ok-form.ensures.grows (subst (λ (ks : List NodeId). AreVariables t ks xs) (sym c.deref-2.ensures.value) c.in_ok-variables.ensures)) in
    let some = some-named new c.in_ok-left.left.items (not_bool xs) kept (λ e. let zero : (length c.in_ok-left.left.items == 0) ≡ true = number-same (length c.in_ok-left.left.items) 0 e in let other = sym c.is_empty.ensures ∙ c.if-is_empty.false in absurd cc) in (
      not_bool xs,
      subst (λ (ks : List NodeId). AreVariables new ks (not_bool xs)) (sym c.deref-3.ensures.value) kept,
      bindable-left u c.requires.quantified (quantified-formula t c.args.id c.know_table.ensures c.requires.node c.requires.quantified).sort some,
    )

pub returns-clause-term : goal.returns-clause-term
returns-clause-term c =
    let t = c.args.table.now in
    let mid = c.substitute_each.new.table in
    let u = tree t c.args.id in
    let q = quantifier_seen c.is_universal-universal.result in
    let xs = variables_of u in
    let are = subst (λ (ks : List NodeId). AreVariables t ks xs) (sym c.deref.ensures.value) c.in_ok-variables.ensures in
    let kept = c.in_ok-left.ensures xs (variables-stay t mid c.deref-2.result.now xs c.in_ok-form.ensures.grows (subst (λ (ks : List NodeId). AreVariables t ks xs) (sym c.deref-2.ensures.value) c.in_ok-variables.ensures)) in
    let some = some-named mid c.in_ok-left.left.items (not_bool xs) kept (λ e. let zero : (length c.in_ok-left.left.items == 0) ≡ true = number-same (length c.in_ok-left.left.items) 0 e in let other = sym c.is_empty.ensures ∙ c.if-is_empty.false in absurd cc) in
    let r = substitute_each q xs (tree t c.args.body, c.args.fresh.now) in
    let made = c.in_ok-result.ensures.term (not_bool xs) (subst (λ (ks : List NodeId). AreVariables mid ks (not_bool xs)) (sym c.deref-3.ensures.value) kept) in
    (λ i. (made i, c.substitute_each.new.fresh))
    ∙ ap (λ (p : Term × Supply). (quantified q (not_bool xs) p.0, p.1)) (c.in_ok-form.ensures.term xs are)
    ∙ (λ i. (sym (over-some q (not_bool xs) r.0 some) i, r.1))
    ∙ (λ i. let s : Term × Supply = substitute_each (quantifier_seen (c.is_universal-universal.ensures i)) xs (tree t c.args.body, c.args.fresh.now) in (over_left (quantifier_seen (c.is_universal-universal.ensures i)) (not_bool xs) s.0, s.1))

pub returns-clause-names : goal.returns-clause-names
returns-clause-names c =
    let t = c.args.table.now in
    let mid = c.substitute_each.new.table in
    let u = tree t c.args.id in
    let q = quantifier_seen c.is_universal-universal.result in
    let xs = variables_of u in
    let kept = c.in_ok-left.ensures xs (variables-stay t mid c.deref-2.result.now xs c.in_ok-form.ensures.grows (subst (λ (ks : List NodeId). AreVariables t ks xs) (sym c.deref-2.ensures.value) c.in_ok-variables.ensures)) in
    let made = c.in_ok-result.ensures.term (not_bool xs) (subst (λ (ks : List NodeId). AreVariables mid ks (not_bool xs)) (sym c.deref-3.ensures.value) kept) in
    subst (λ w. GivesNone c.substitute_each.new.fresh (names_within w)) (sym made)
    (over-spared c.substitute_each.new.fresh q u (tree mid c.in_ok-form.form) c.requires.quantified (spared-later c.args.fresh.now c.substitute_each.new.fresh (names_within u) c.substitute_each.ensures.later c.requires.names) c.in_ok-form.ensures.names)

pub returns-clause-work : goal.returns-clause-work
returns-clause-work c = work-stays c.substitute_each.new.table c.quantify.new.table c.substitute_each.new.work c.in_ok-result.ensures.grows c.in_ok-form.ensures.work

pub returns-in_err-variables-clause-drawn : goal.returns-in_err-variables-clause-drawn
returns-in_err-variables-clause-drawn c = none-gained c.args.fresh.now c.args.table.now.symbols c.args.table.now.symbols refl

pub returns-in_err-result-clause-drawn : goal.returns-in_err-result-clause-drawn
returns-in_err-result-clause-drawn c = subst (NeverGivesGained c.substitute_each.new.fresh c.args.table.now.symbols) (sym c.quantify.ensures.symbols) c.substitute_each.ensures.drawn

pub returns-clause-drawn : goal.returns-clause-drawn
returns-clause-drawn c = subst (NeverGivesGained c.substitute_each.new.fresh c.args.table.now.symbols) (sym c.quantify.ensures.symbols) c.substitute_each.ensures.drawn
