-- The value of a quantifier's node from the values of its body.
use Rattle.std.proofs.Common.{◌≡◌, ℕ, ◌+◌, ◌-◌, ◌<◌, ◌≤◌, true, List, length, get_or, take, All, Some, refl, ap, sym, ◌∙◌, subst, arith}
use Rattle.smt_terms.specs.declared.ids.NodeId.{NodeId}
use Rattle.smt_terms.specs.Models.{Model}
use Rattle.smt_terms.specs.Rank.{sort_of}
use Rattle.smt_terms.specs.Sorts.{bool}
use Rattle.smt_terms.specs.Term.{universal, existential, Term, apply, quantified}
use Rattle.smt_terms.specs.Val.{Env, runs, val, fits, bound_bits, bits_bound}
use Rattle.smt_terms.specs.Values.{truth, is_true}
use Rattle.normal_forms.specs.Shape.{is_universally_quantified}
use Rattle.term_table.specs.Formulas.{Formulas, tree, trees_at, operands, IsNode, IsTable}
use Rattle.term_walk.specs.Binders.{is_quantified}
use Rattle.evaluation.specs.Choices.{quantifier_of, variables_at, bits_below, IsVariable}
use Rattle.evaluation.specs.Evaluated.{breaks}
use Rattle.evaluation.specs.declared.quantifiers.Quantified.{Quantified}
use Rattle.evaluation.proofs.BinderParts.{variables_in, body_in, quantifier_in, is-binder, binder-parts, some-variable, body-sort, are-variables}

quantifier-seen : (u : Term) → is_quantified u ≡ true → quantifier_of (is_universally_quantified u) ≡ quantifier_in u
quantifier-seen (quantified universal xs b) e = refl
quantifier-seen (quantified existential xs b) e = refl
quantifier-seen (apply h ts) e = absurd cc

module _ (t : Formulas) (table : IsTable t) (id : NodeId) (node : IsNode t id) (e : is_quantified (tree t id) ≡ true) (ks : List NodeId) (are : trees_at t ks ≡ operands (tree t id)) (under : All (λ k. k.0 < id.0) ks) where
  last : length ks - 1 ≡ length (variables_in (tree t id))
  last = let n = (binder-parts t table id node e ks are under).count in omega (arith, n)

  pub some-operand : 1 < length ks
  some-operand =
      let n = (binder-parts t table id node e ks are under).count in
      let some = some-variable t table id node e ks are under in
      omega (arith, n, some)

  pub body-is : (d : NodeId) → tree t (get_or ks (length ks - 1) d) ≡ body_in (tree t id)
  body-is d = ap (λ i. tree t (get_or ks i d)) last ∙ (binder-parts t table id node e ks are under).body d

  pub body-narrow : (d : NodeId) → bits_bound (tree t (get_or ks (length ks - 1) d)) ≤ bits_bound (tree t id)
  body-narrow d =
      let same = ap bits_bound (body-is d) in
      let whole = ap bits_bound (is-binder (tree t id) e) in
      omega (arith, same, whole)

  pub body-node : (d : NodeId) → IsNode t (get_or ks (length ks - 1) d)
  body-node d =
      let some = some-operand in
      let below = under (length ks - 1) d (omega (arith, some)) in
      omega (arith, below, node)

  pub body-is-formula : (d : NodeId) → sort_of (tree t (get_or ks (length ks - 1) d)) ≡ Some bool
  body-is-formula d = ap sort_of (body-is d) ∙ body-sort t table id node e ks are under

  pub variables-are : variables_at t (take (length ks - 1) ks) ≡ variables_in (tree t id)
  variables-are = ap (λ n. variables_at t (take n ks)) last ∙ (binder-parts t table id node e ks are under).named

  pub all-variables : All (IsVariable t) (take (length ks - 1) ks)
  all-variables = subst (λ (n : ℕ). All (IsVariable t) (take n ks)) (sym last) (are-variables t table id node e ks are under)

  module _ (q : Quantified) (body : tree t q.body ≡ body_in (tree t id)) where
    pub bits-are : bits_below t (take (length ks - 1) ks) q ≡ bits_bound (tree t id)
    bits-are = (λ i. bound_bits (variables-are i) + bits_bound (body i)) ∙ ap bits_bound (sym (is-binder (tree t id) e))

    module _ (m : Model) (env : Env) where
      pub binder-value : q.universal ≡ is_universally_quantified (tree t id) → truth (runs (quantifier_of q.universal) (variables_at t (take (length ks - 1) ks)) m.sizes (λ f. is_true (val m (tree t q.body) f)) env) ≡ val m (tree t id) env
      binder-value same =
          let seen = ap quantifier_of same ∙ quantifier-seen (tree t id) e in
          (λ i. truth (runs (seen i) (variables-are i) m.sizes (λ f. is_true (val m (body i) f)) env)) ∙ ap (λ u. val m u env) (sym (is-binder (tree t id) e))

      pub binder-fits : runs universal (variables_at t (take (length ks - 1) ks)) m.sizes (λ f. fits m (tree t q.body) f) env ≡ fits m (tree t id) env
      binder-fits = (λ i. runs universal (variables-are i) m.sizes (λ f. fits m (body i) f) env) ∙ ap (λ u. fits m u env) (sym (is-binder (tree t id) e))

      pub binder-breaks : (v : Term) → runs existential (variables_at t (take (length ks - 1) ks)) m.sizes (λ f. breaks m v (tree t q.body) f) env ≡ breaks m v (tree t id) env
      binder-breaks v = (λ i. runs existential (variables-are i) m.sizes (λ f. breaks m v (body i) f) env) ∙ ap (λ u. breaks m v u env) (sym (is-binder (tree t id) e))
