use Rattle.std.proofs.Common.{◌≡◌, ◌==◌, true, List, length, vec_len, ap, sym, ◌∙◌, subst, arith}
use Rattle.smt_terms.specs.declared.ids.NodeId.{NodeId}
use Rattle.smt_terms.specs.Term.{quantified}
use Rattle.term_table.specs.Formulas.{tree}
use Rattle.term_walk.proofs.Visits.{table-grows}
use Rattle.normal_forms.specs.Nodes.{IsFormula}
use Rattle.normal_forms.specs.Quantifiers.{not_bool, expand_each}
use Rattle.normal_forms.specs.Shape.{variables_of, quantifier_seen}
use Rattle.quantifier_forms.specs.Variables.{AreVariables}
use Rattle.quantifier_forms.proofs.Stands.{same-number, number-same}
use Rattle.quantifier_forms.proofs.Variables.{none-named, some-named, variables-stay}
use Rattle.boolean_quantifiers.proofs.Cases.{work-stays}
use Rattle.boolean_quantifiers.proofs.Expansions.{expanded-formula, quantified-expanded, left-bindable, over-none, over-some}
use Rattle.boolean_quantifiers.proofs.shannon_expansion.expand_quantified.Goals as goal

pub expand_each-requires-clause-body : goal.expand_each-requires-clause-body
expand_each-requires-clause-body c =
    subst (IsFormula c.args.table.now) (sym c.known-body.ensures)
    (expanded-formula c.args.table.now c.args.results.now c.args.id c.body_below.result c.know_table.ensures c.requires.node c.requires.quantified c.requires.ready c.body_below.ensures.below c.body_below.ensures.term)

pub returns-then-is_empty-clause-expanded : goal.returns-then-is_empty-clause-expanded
returns-then-is_empty-clause-expanded c =
    let t = c.args.table.now in
    let new = c.expand_each.new.table in
    let q = quantifier_seen c.is_universal-universal.result in
    let xs = variables_of (tree t c.args.id) in
    let are = subst (λ (ks : List NodeId). AreVariables t ks xs) (sym c.deref.ensures.value) c.in_ok-variables.ensures in
    let kept = c.in_ok-left.ensures xs (variables-stay t new c.deref-2.result.now xs c.in_ok-form.ensures.grows (subst (λ (ks : List NodeId). AreVariables t ks xs) (sym c.deref-2.ensures.value) c.in_ok-variables.ensures)) in
    let zero : vec_len c.in_ok-left.left ≡ 0 = same-number (vec_len c.in_ok-left.left) 0 (sym c.is_empty.ensures ∙ c.if-is_empty.true) in
    let empty = none-named new c.in_ok-left.left.items (not_bool xs) kept (let count = c.in_ok-left.left.ok.0 in omega (arith, count)) in
    quantified-expanded t c.args.results.now c.args.id c.body_below.result c.know_table.ensures c.requires.node c.requires.quantified c.requires.ready c.body_below.ensures.below c.body_below.ensures.term
    new c.in_ok-form.form c.is_universal-universal.result c.in_ok-form.ensures.grows c.is_universal-universal.ensures c.in_ok-form.ensures.formula
    (c.in_ok-form.ensures.term xs are ∙ ap (λ k. expand_each q xs (tree t k)) c.known-body.ensures ∙ sym (over-none q (not_bool xs) _ empty))

pub quantify-requires-clause-variables : goal.quantify-requires-clause-variables
quantify-requires-clause-variables c =
    let t = c.args.table.now in
    let new = c.expand_each.new.table in
    let xs = variables_of (tree t c.args.id) in
    let kept = c.in_ok-left.ensures xs (variables-stay t new c.deref-2.result.now xs c.in_ok-form.ensures.grows (subst (λ (ks : List NodeId). AreVariables t ks xs) (sym c.deref-2.ensures.value) c.in_ok-variables.ensures)) in
    let some = some-named new c.in_ok-left.left.items (not_bool xs) kept (λ e. let zero : (length c.in_ok-left.left.items == 0) ≡ true = number-same (length c.in_ok-left.left.items) 0 e in let other = sym c.is_empty.ensures ∙ c.if-is_empty.false in absurd cc) in (
      not_bool xs,
      subst (λ (ks : List NodeId). AreVariables new ks (not_bool xs)) (sym c.deref-3.ensures.value) kept,
      left-bindable t c.args.results.now c.args.id c.body_below.result c.know_table.ensures c.requires.node c.requires.quantified c.requires.ready c.body_below.ensures.below c.body_below.ensures.term some,
    )

pub returns-clause-expanded : goal.returns-clause-expanded
returns-clause-expanded c =
    let t = c.args.table.now in
    let mid = c.expand_each.new.table in
    let q = quantifier_seen c.is_universal-universal.result in
    let xs = variables_of (tree t c.args.id) in
    let are = subst (λ (ks : List NodeId). AreVariables t ks xs) (sym c.deref.ensures.value) c.in_ok-variables.ensures in
    let kept = c.in_ok-left.ensures xs (variables-stay t mid c.deref-2.result.now xs c.in_ok-form.ensures.grows (subst (λ (ks : List NodeId). AreVariables t ks xs) (sym c.deref-2.ensures.value) c.in_ok-variables.ensures)) in
    let some = some-named mid c.in_ok-left.left.items (not_bool xs) kept (λ e. let zero : (length c.in_ok-left.left.items == 0) ≡ true = number-same (length c.in_ok-left.left.items) 0 e in let other = sym c.is_empty.ensures ∙ c.if-is_empty.false in absurd cc) in
    let grows = table-grows t mid c.quantify.new.table c.in_ok-form.ensures.grows c.in_ok-result.ensures.grows in
    quantified-expanded t c.args.results.now c.args.id c.body_below.result c.know_table.ensures c.requires.node c.requires.quantified c.requires.ready c.body_below.ensures.below c.body_below.ensures.term
    c.quantify.new.table c.in_ok-result.result c.is_universal-universal.result grows c.is_universal-universal.ensures c.in_ok-result.ensures.formula
    (
    c.in_ok-result.ensures.term (not_bool xs) (subst (λ (ks : List NodeId). AreVariables mid ks (not_bool xs)) (sym c.deref-3.ensures.value) kept)
    ∙ ap (quantified q (not_bool xs)) (c.in_ok-form.ensures.term xs are ∙ ap (λ k. expand_each q xs (tree t k)) c.known-body.ensures)
    ∙ sym (over-some q (not_bool xs) _ some)
    )

pub returns-clause-work : goal.returns-clause-work
returns-clause-work c = work-stays c.expand_each.new.table c.quantify.new.table c.expand_each.new.work c.in_ok-result.ensures.grows c.in_ok-form.ensures.work
