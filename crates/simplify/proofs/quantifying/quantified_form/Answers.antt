use Rattle.std.proofs.Common.{◌≡◌, ◌==◌, true, [], List, length, ap, sym, ◌∙◌, subst}
use Rattle.smt_terms.specs.declared.ids.NodeId.{NodeId}
use Rattle.smt_terms.specs.Term.{quantified}
use Rattle.term_table.specs.Formulas.{tree}
use Rattle.normal_forms.specs.Shape.{quantifier_seen, is_universally_quantified, variables_of}
use Rattle.quantifier_forms.specs.Variables.{AreVariables}
use Rattle.quantifier_forms.proofs.Stands.{number-same}
use Rattle.quantifier_forms.proofs.Variables.{some-named}
use Rattle.simplify.specs.Occurring.{occurring}
use Rattle.simplify.proofs.Quantified.{variables-bindable, occurring-bindable, quantification-some}
use Rattle.simplify.proofs.quantifying.quantified_form.Goals as goal

pub quantify-requires-clause-variables : goal.quantify-requires-clause-variables
quantify-requires-clause-variables c =
    let t = c.args.table.now in
    let xs = variables_of (tree t c.args.id) in
    let u = tree t c.args.body in
    let kept = c.in_ok-kept.ensures xs (subst (λ (ks : List NodeId). AreVariables t ks xs) (sym c.deref.ensures.value) c.in_ok-variables.ensures) in
    let some : occurring u xs ≡ [] → ⊥ = some-named t c.in_ok-kept.kept.items (occurring u xs) kept
    (λ e. let zero : (length c.in_ok-kept.kept.items == 0) ≡ true = number-same (length c.in_ok-kept.kept.items) 0 e in let other = sym c.is_empty.ensures ∙ c.if-is_empty.false in absurd cc) in (
      occurring u xs,
      subst (λ (ks : List NodeId). AreVariables t ks (occurring u xs)) (sym c.deref-2.ensures.value) kept,
      occurring-bindable u xs (variables-bindable (tree t c.args.id) c.requires.quantified c.requires.formula.sort) some,
    )

pub returns-clause-term : goal.returns-clause-term
returns-clause-term c =
    let t = c.args.table.now in
    let xs = variables_of (tree t c.args.id) in
    let u = tree t c.args.body in
    let kept = c.in_ok-kept.ensures xs (subst (λ (ks : List NodeId). AreVariables t ks xs) (sym c.deref.ensures.value) c.in_ok-variables.ensures) in
    let some : occurring u xs ≡ [] → ⊥ = some-named t c.in_ok-kept.kept.items (occurring u xs) kept
    (λ e. let zero : (length c.in_ok-kept.kept.items == 0) ≡ true = number-same (length c.in_ok-kept.kept.items) 0 e in let other = sym c.is_empty.ensures ∙ c.if-is_empty.false in absurd cc) in
    c.in_ok-id.ensures.term (occurring u xs) (subst (λ (ks : List NodeId). AreVariables t ks (occurring u xs)) (sym c.deref-2.ensures.value) kept)
    ∙ ap (λ b. quantified (quantifier_seen b) (occurring u xs) u) c.is_universal-universal.ensures
    ∙ sym (quantification-some (quantifier_seen (is_universally_quantified (tree t c.args.id))) xs u some)
