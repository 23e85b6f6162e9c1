-- The operands of a quantifier's node: its variables and its body.
use Rattle.std.proofs.Common.{◌≡◌, ℕ, zero, suc, ◌<◌, true, List, [], ◌∷◌, ◌++◌, length, map, get_or, take, drop, All, Some, refl, ap, sym, ◌∙◌, subst, arith}
use Rattle.std.specs.List.{list_all}
use Rattle.std.proofs.lemmas.List.{get_or-map, get_or-take, length-take-le}
use Rattle.smt_terms.specs.declared.ids.NodeId.{NodeId}
use Rattle.smt_terms.specs.Rank.{is_quantifiable, are_bindable, sort_of, are_distinct}
use Rattle.smt_terms.specs.Sorts.{Sort, bool, Variable}
use Rattle.smt_terms.specs.Term.{Quantifier, universal, Term, apply, quantified, variable}
use Rattle.smt_terms.proofs.Tests.{both_true}
use Rattle.smt_terms.proofs.Sorted.{IsQuantified, quantified_sort}
use Rattle.smt_terms.proofs.Keeping.{the_sort}
use Rattle.term_table.specs.Formulas.{Formulas, no_tree, tree, trees_at, variable_of, operands, IsNode, IsTable}
use Rattle.term_walk.specs.Binders.{is_quantified}
use Rattle.evaluation.specs.Choices.{variables_at, IsVariable}

-- these nodes are the variables and the body
pub record Parts (t : Formulas) (ks : List NodeId) (xs : List Variable) (b : Term) : Type 0 where
  pub count : length ks ≡ suc (length xs)
  pub body : (d : NodeId) → tree t (get_or ks (length xs) d) ≡ b
  pub each : (i : ℕ) (d : NodeId) → i < length xs → tree t (get_or ks i d) ≡ variable (variable_of (tree t (get_or ks i d)))
  pub named : variables_at t (take (length xs) ks) ≡ xs

pub parts : (t : Formulas) (ks : List NodeId) (xs : List Variable) (b : Term) → trees_at t ks ≡ map variable xs ++ b ∷ [] → Parts t ks xs b
parts t [] [] b e = absurd cc
parts t [] (x ∷ xs) b e = absurd cc
parts t (k ∷ []) [] b e = record { count = refl; body = λ d. ap (λ us. get_or us 0 no_tree) e; each = λ i d lt. absurd (omega arith); named = refl }
parts t (k ∷ j ∷ ks) [] b e = let no : suc (suc (length (trees_at t ks))) ≡ 1 = ap length e in absurd (omega arith)
parts t (k ∷ ks) (x ∷ xs) b e =
    let first : tree t k ≡ variable x = ap (λ us. get_or us 0 no_tree) e in
    let rest = parts t ks xs b (ap (drop 1) e) in
    record {
      count = ap suc rest.count;
      body = rest.body;
      each = λ i d lt. at first rest i d lt;
      named = λ i. variable_of (first i) ∷ rest.named i;
    }
  where
    at : tree t k ≡ variable x → Parts t ks xs b → (i : ℕ) (d : NodeId) → i < suc (length xs) → tree t (get_or (k ∷ ks) i d) ≡ variable (variable_of (tree t (get_or (k ∷ ks) i d)))
    at first rest zero d lt = first ∙ ap (λ u. variable (variable_of u)) (sym first)
    at first rest (suc i) d lt = rest.each i d (omega arith)

-- ---- the variables of a well-sorted quantifier

abbrev pub variables_in : Term → List Variable
variables_in (quantified q xs b) = xs
variables_in (apply h ts) = []

abbrev pub body_in : Term → Term
body_in (quantified q xs b) = b
body_in (apply h ts) = no_tree

abbrev pub quantifier_in : Term → Quantifier
quantifier_in (quantified q xs b) = q
quantifier_in (apply h ts) = universal

pub is-binder : (u : Term) → is_quantified u ≡ true → u ≡ quantified (quantifier_in u) (variables_in u) (body_in u)
is-binder (apply h ts) e = absurd cc
is-binder (quantified q xs b) e = refl

all-at : (xs : List Variable) (i : ℕ) (d : Variable) → list_all (λ x. is_quantifiable x.sort) xs ≡ true → i < length xs → is_quantifiable (get_or xs i d).sort ≡ true
all-at [] i d e lt = absurd (omega arith)
all-at (x ∷ xs) zero d e lt = (both_true (is_quantifiable x.sort) (list_all (λ y. is_quantifiable y.sort) xs) e).0
all-at (x ∷ xs) (suc i) d e lt = all-at xs i d (both_true (is_quantifiable x.sort) (list_all (λ y. is_quantifiable y.sort) xs) e).1 (omega arith)

bindable-each : (xs : List Variable) → are_bindable xs ≡ true → list_all (λ x. is_quantifiable x.sort) xs ≡ true
bindable-each [] e = absurd cc
bindable-each (x ∷ xs) e = (both_true (are_distinct (map (λ y. y.name) (x ∷ xs))) (list_all (λ y. is_quantifiable y.sort) (x ∷ xs)) e).1

bindable-some : (xs : List Variable) → are_bindable xs ≡ true → 0 < length xs
bindable-some [] e = absurd cc
bindable-some (x ∷ xs) e = omega arith

sorted-parts : (t : Formulas) (table : IsTable t) (id : NodeId) → IsNode t id → is_quantified (tree t id) ≡ true → (s : Sort) × IsQuantified (variables_in (tree t id)) (body_in (tree t id)) s
sorted-parts t table id node e =
    let both = both_true _ _ (table.sorted id.0 node) in
    let s = the_sort (sort_of (tree t id)) both.0 in
    (s.0, quantified_sort (quantifier_in (tree t id)) (variables_in (tree t id)) (body_in (tree t id)) s.0 (ap sort_of (sym (is-binder (tree t id) e)) ∙ s.1))

module _ (t : Formulas) (table : IsTable t) (id : NodeId) (node : IsNode t id) (e : is_quantified (tree t id) ≡ true) (ks : List NodeId) (are : trees_at t ks ≡ operands (tree t id)) (under : All (λ k. k.0 < id.0) ks) where
  pub binder-parts : Parts t ks (variables_in (tree t id)) (body_in (tree t id))
  binder-parts = parts t ks (variables_in (tree t id)) (body_in (tree t id)) (are ∙ ap operands (is-binder (tree t id) e))

  pub some-variable : 0 < length (variables_in (tree t id))
  some-variable = bindable-some (variables_in (tree t id)) (sorted-parts t table id node e).1.bindable

  pub body-sort : sort_of (body_in (tree t id)) ≡ Some bool
  body-sort = (sorted-parts t table id node e).1.body

  pub are-variables : All (IsVariable t) (take (length (variables_in (tree t id))) ks)
  are-variables i d lt =
      let p = binder-parts in
      let n = p.count in
      let xs = variables_in (tree t id) in
      let long : length (take (length xs) ks) ≡ length xs = length-take-le (length xs) ks (omega (arith, n)) in
      let at : get_or (take (length xs) ks) i d ≡ get_or ks i d = get_or-take (length xs) ks i d (omega (arith, long)) in
      let below = under i d (omega (arith, long, n)) in
      let x : Variable = record { name = []; sort = bool } in
      let named : variable_of (tree t (get_or (take (length xs) ks) i d)) ≡ get_or xs i x = sym (get_or-map (λ k. variable_of (tree t k)) (take (length xs) ks) i d x lt) ∙ ap (λ ys. get_or ys i x) p.named in
      record {
        node = subst (IsNode t) (sym at) (omega (arith, below, node));
        constant_is = ap (tree t) at ∙ p.each i d (omega (arith, long)) ∙ ap (λ k. variable (variable_of (tree t k))) (sym at);
        bindable = ap (λ y. is_quantifiable y.sort) named ∙ all-at xs i x (bindable-each xs (sorted-parts t table id node e).1.bindable) (omega (arith, long));
      }
