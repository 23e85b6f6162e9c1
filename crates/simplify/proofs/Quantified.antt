-- Quantifiers over the variables that occur free.
use Rattle.std.proofs.Common.{◌≡◌, ◌+◌, ℕ, ◌<◌, Bool, true, false, not, cond, ◌||◌, if◌then◌else◌, List, [], ◌∷◌, ◌++◌, length, map, get_or, take, filter, Some, refl, ap, sym, ◌∙◌, subst, arith}
use Rattle.std.specs.List.{list_all}
use Rattle.std.proofs.lemmas.List.{map-append, take_more, append-nil}
use Rattle.std.proofs.lemmas.List.Elements.{All-append, All-cons, filter-append}
use Rattle.smt_terms.specs.declared.ids.NodeId.{NodeId}
use Rattle.smt_terms.specs.Equal.{name_eq}
use Rattle.smt_terms.specs.Free.{free, is_among}
use Rattle.smt_terms.specs.Rank.{sort_of, has_name, are_distinct, are_bindable, is_quantifiable}
use Rattle.smt_terms.specs.Sorts.{Name, bool, Variable}
use Rattle.smt_terms.specs.Term.{Quantifier, Term, apply, quantified, constant_of, variable}
use Rattle.smt_terms.proofs.Sorted.{quantified_sort}
use Rattle.smt_terms.proofs.Tests.{both_true, both_false, and_true, not_true}
use Rattle.term_table.specs.Formulas.{Formulas, tree, tree_in, trees_at, variable_of, IsNode, AreNodes}
use Rattle.normal_forms.specs.Shape.{variables_of}
use Rattle.term_walk.specs.Binders.{is_quantified}
use Rattle.quantifier_forms.specs.Variables.{AreVariables}
use Rattle.quantifier_forms.proofs.Variables.{variables-number, variable-at}
use Rattle.simplify.specs.Logic.{over_variables, quantification}
use Rattle.simplify.specs.Occurring.{occurring}

-- ---- one variable more

pub variable-named : (t : Formulas) (ks : List NodeId) (xs : List Variable) → AreVariables t ks xs → (i : ℕ) (d : NodeId) → i < length ks → tree t (get_or ks i d) ≡ variable (variable_of (tree t (get_or ks i d)))
variable-named t ks xs are i d lt = subst (λ u. u ≡ variable (variable_of u)) (sym (variable-at t ks xs are i d (record { name = []; sort = bool }) lt)) refl

module _ (t : Formulas) (k : NodeId) (x : Variable) (node : IsNode t k) (term : tree t k ≡ variable x) (left : List NodeId) (ys : List Variable) (are : AreVariables t left ys) where
  one-more : (b : Bool) → AreVariables t (left ++ cond b (k ∷ []) []) (ys ++ cond b (x ∷ []) [])
  one-more true = record {
    nodes = All-append (IsNode t) left (k ∷ []) are.nodes (All-cons (IsNode t) k [] node (λ i d lt. absurd (omega arith)));
    terms = map-append (tree_in t.trees) left (k ∷ []) ∙ (λ i. are.terms i ++ term i ∷ []) ∙ sym (map-append variable ys (x ∷ []));
  }
  one-more false = record {
    nodes = subst (AreNodes t) (sym (append-nil left)) are.nodes;
    terms = ap (trees_at t) (append-nil left) ∙ are.terms ∙ ap (map variable) (sym (append-nil ys));
  }

module _ (t : Formulas) (ks left new : List NodeId) (xs : List Variable) (are : AreVariables t ks xs) (u : Term) where
  abbrev first_node : NodeId
  first_node = record { 0 = 0 }

  abbrev some_variable : Variable
  some_variable = record { name = []; sort = bool }

  pub occurring-more : (i : ℕ) (d : NodeId) → i < length ks → AreVariables t left (occurring u (take i xs)) → new ≡ left ++ (if is_among (free u) (constant_of (variable_of (tree t (get_or ks i d)))) then get_or ks i d ∷ [] else []) → AreVariables t new (occurring u (take (i + 1) xs))
  occurring-more i d lt kept is =
      let n = variables-number t ks xs are in
      let x = get_or xs i some_variable in
      let k = get_or ks i d in
      let term : tree t k ≡ variable x = variable-at t ks xs are i d some_variable lt in
      let told : is_among (free u) (constant_of (variable_of (tree t k))) ≡ is_among (free u) (constant_of x) = ap (λ v. is_among (free u) (constant_of (variable_of v))) term in
      let more : occurring u (take (i + 1) xs) ≡ occurring u (take i xs) ++ cond (is_among (free u) (constant_of x)) (x ∷ []) [] =
      ap (occurring u) (take_more xs i some_variable (omega (arith, n))) ∙ filter-append (λ y. is_among (free u) (constant_of y)) (take i xs) (x ∷ []) in
      subst (λ (js : List NodeId). AreVariables t js (occurring u (take (i + 1) xs))) (sym (is ∙ ap (λ b. left ++ cond b (k ∷ []) []) told))
      (subst (AreVariables t (left ++ cond (is_among (free u) (constant_of x)) (k ∷ []) [])) (sym more)
      (one-more t k x (are.nodes i d lt) term left (occurring u (take i xs)) kept (is_among (free u) (constant_of x))))

-- ---- some of the variables of a quantifier can be bound

module _ (test : Variable → Bool) where
  filter-apart : (n : Name) (xs : List Variable) → has_name n (map (λ x. x.name) xs) ≡ false → has_name n (map (λ x. x.name) (filter test xs)) ≡ false
  filter-apart n [] e = refl
  filter-apart n (x ∷ xs) e =
      let parts = both_false (name_eq n x.name) (has_name n (map (λ y. y.name) xs)) e in
      go (test x) parts.0 (filter-apart n xs parts.1)
    where
      go : (b : Bool) → name_eq n x.name ≡ false → has_name n (map (λ y. y.name) (filter test xs)) ≡ false → has_name n (map (λ y. y.name) (cond b (x ∷ filter test xs) (filter test xs))) ≡ false
      go false here below = below
      go true here below = ap (λ c. c || has_name n (map (λ y. y.name) (filter test xs))) here ∙ below

  filter-distinct : (xs : List Variable) → are_distinct (map (λ x. x.name) xs) ≡ true → are_distinct (map (λ x. x.name) (filter test xs)) ≡ true
  filter-distinct [] e = refl
  filter-distinct (x ∷ xs) e =
      let parts = both_true (not (has_name x.name (map (λ y. y.name) xs))) (are_distinct (map (λ y. y.name) xs)) e in
      go (test x) (filter-apart x.name xs (not_true (has_name x.name (map (λ y. y.name) xs)) parts.0)) (filter-distinct xs parts.1)
    where
      go : (b : Bool) → has_name x.name (map (λ y. y.name) (filter test xs)) ≡ false → are_distinct (map (λ y. y.name) (filter test xs)) ≡ true → are_distinct (map (λ y. y.name) (cond b (x ∷ filter test xs) (filter test xs))) ≡ true
      go false here below = below
      go true here below = and_true (not (has_name x.name (map (λ y. y.name) (filter test xs)))) (are_distinct (map (λ y. y.name) (filter test xs))) (ap not here) below

  filter-quantifiable : (xs : List Variable) → list_all (λ x. is_quantifiable x.sort) xs ≡ true → list_all (λ x. is_quantifiable x.sort) (filter test xs) ≡ true
  filter-quantifiable [] e = refl
  filter-quantifiable (x ∷ xs) e =
      let parts = both_true (is_quantifiable x.sort) (list_all (λ y. is_quantifiable y.sort) xs) e in
      go (test x) parts.0 (filter-quantifiable xs parts.1)
    where
      go : (b : Bool) → is_quantifiable x.sort ≡ true → list_all (λ y. is_quantifiable y.sort) (filter test xs) ≡ true → list_all (λ y. is_quantifiable y.sort) (cond b (x ∷ filter test xs) (filter test xs)) ≡ true
      go false here below = below
      go true here below = and_true (is_quantifiable x.sort) (list_all (λ y. is_quantifiable y.sort) (filter test xs)) here below

bindable-parts : (xs : List Variable) → are_bindable xs ≡ true → (are_distinct (map (λ x. x.name) xs) ≡ true) × (list_all (λ x. is_quantifiable x.sort) xs ≡ true)
bindable-parts [] e = absurd cc
bindable-parts (x ∷ xs) e = both_true (are_distinct (map (λ y. y.name) (x ∷ xs))) (list_all (λ y. is_quantifiable y.sort) (x ∷ xs)) e

bindable-from : (xs : List Variable) → are_distinct (map (λ x. x.name) xs) ≡ true → list_all (λ x. is_quantifiable x.sort) xs ≡ true → (xs ≡ [] → ⊥) → are_bindable xs ≡ true
bindable-from [] distinct all some = absurd (some refl)
bindable-from (x ∷ xs) distinct all some = and_true (are_distinct (map (λ y. y.name) (x ∷ xs))) (list_all (λ y. is_quantifiable y.sort) (x ∷ xs)) distinct all

pub occurring-bindable : (u : Term) (xs : List Variable) → are_bindable xs ≡ true → (occurring u xs ≡ [] → ⊥) → are_bindable (occurring u xs) ≡ true
occurring-bindable u xs e some =
    let parts = bindable-parts xs e in
    bindable-from (occurring u xs) (filter-distinct (λ x. is_among (free u) (constant_of x)) xs parts.0) (filter-quantifiable (λ x. is_among (free u) (constant_of x)) xs parts.1) some

pub variables-bindable : (u : Term) → is_quantified u ≡ true → sort_of u ≡ Some bool → are_bindable (variables_of u) ≡ true
variables-bindable (quantified q xs b) is has = (quantified_sort q xs b bool has).bindable
variables-bindable (apply h ts) is has = absurd cc

-- ---- the quantifier over what is left

over-some : (q : Quantifier) (ys : List Variable) (u : Term) → (ys ≡ [] → ⊥) → over_variables q ys u ≡ quantified q ys u
over-some q [] u some = absurd (some refl)
over-some q (y ∷ ys) u some = refl

pub quantification-none : (q : Quantifier) (xs : List Variable) (u : Term) → occurring u xs ≡ [] → quantification q xs u ≡ u
quantification-none q xs u e = ap (λ ys. over_variables q ys u) e

pub quantification-some : (q : Quantifier) (xs : List Variable) (u : Term) → (occurring u xs ≡ [] → ⊥) → quantification q xs u ≡ quantified q (occurring u xs) u
quantification-some q xs u some = over-some q (occurring u xs) u some
