-- A quantifier keeps its value without the variables that aren't free in its body.
use Rattle.std.proofs.Common.{◌≡◌, ℕ, zero, suc, Bool, true, false, not, cond, inl, inr, List, [], ◌∷◌, map, Some, refl, ap, sym, ◌∙◌}
use Rattle.std.specs.Prelude.{filter}
use Rattle.std.specs.List.{list_all}
use Rattle.smt_terms.specs.Sorts.{Name, Sort, bool, int, bit_vector, array, free_sort, Symbol, Variable}
use Rattle.smt_terms.specs.Term.{Quantifier, universal, existential, Term, quantified, constant_of}
use Rattle.smt_terms.specs.Equal.{name_eq, symbol_eq}
use Rattle.smt_terms.specs.Free.{is_among, free}
use Rattle.smt_terms.specs.Keeps.{Keeps}
use Rattle.smt_terms.specs.Models.{Model}
use Rattle.smt_terms.specs.Rank.{is_quantifiable, has_name, are_distinct, are_bindable, is_sort, sort_of, is_regular, IsWellSorted}
use Rattle.smt_terms.specs.Val.{Env, assign, runs, val}
use Rattle.smt_terms.specs.Values.{Value, truth, is_true, Sizes, joined, over_bits, over_values}
use Rattle.smt_terms.proofs.Agree.{SameAt, val_same}
use Rattle.smt_terms.proofs.Equal.{Decides-symbol_eq}
use Rattle.smt_terms.proofs.Respects.{equal_same}
use Rattle.smt_terms.proofs.Sorted.{quantified_sort, sort_of-quantified}
use Rattle.smt_terms.proofs.StoredTerms.{fine_term, keeps}
use Rattle.smt_terms.proofs.Tests.{both_true, and_true, both_false, or_false, not_true, true_or_false, contrary}
use Rattle.simplify.specs.Logic.{over_variables, quantification}

-- ---- a quantifier over a variable that its body doesn't speak of

joined_alike : (q : Quantifier) (b : Bool) → joined q b b ≡ b
joined_alike universal true = refl
joined_alike universal false = refl
joined_alike existential true = refl
joined_alike existential false = refl

constant_bits : (q : Quantifier) (w : ℕ) (b : Bool) → over_bits q w (λ bs. b) ≡ b
unfolding over_bits
constant_bits q zero b = refl
constant_bits q (suc w) b = (λ i. joined q (constant_bits q w b i) (constant_bits q w b i)) ∙ joined_alike q b

constant_test : (q : Quantifier) (s : Sort) (sizes : Sizes) (b : Bool) → is_quantifiable s ≡ true → over_values q s sizes (λ v. b) ≡ b
constant_test q bool sizes b h = joined_alike q b
constant_test q (bit_vector w) sizes b h = constant_bits q w b
constant_test q int sizes b h = absurd cc
constant_test q (array i e) sizes b h = absurd cc
constant_test q (free_sort n) sizes b h = absurd cc

-- ---- a test that depends on these symbols alone

module _ (fs : List Symbol) (A : Env → Bool) (depends : (d e : Env) → SameAt fs d e → A d ≡ A e) (q : Quantifier) (sizes : Sizes) where
  abbrev is_free : Variable → Bool
  is_free x = is_among fs (constant_of x)

  abbrev kept : List Variable → List Variable
  kept xs = filter is_free xs

  both_assigned : (x : Variable) (v : Value) (d e : Env) → SameAt fs d e → SameAt fs (assign x v d) (assign x v e)
  both_assigned x v d e same f among = ap (cond (symbol_eq (constant_of x) f) (Some v)) (same f among)

  unfree_assigned : (x : Variable) (v : Value) (d e : Env) → is_free x ≡ false → SameAt fs d e → SameAt fs (assign x v d) e
  unfree_assigned x v d e gone same f among = go (symbol_eq (constant_of x) f) refl
    where
      go : (b : Bool) → symbol_eq (constant_of x) f ≡ b → cond b (Some v) (d f) ≡ e f
      go true here = contrary (is_free x) (ap (is_among fs) ((Decides-symbol_eq (constant_of x) f).0 here) ∙ among) gone
      go false other = same f among

  pub fewer_runs : (xs : List Variable) → list_all (λ x. is_quantifiable x.sort) xs ≡ true → (d e : Env) → SameAt fs d e → runs q xs sizes A d ≡ runs q (kept xs) sizes A e
  fewer_runs [] fine d e same = depends d e same
  fewer_runs (x ∷ xs) fine d e same =
      let parts = both_true (is_quantifiable x.sort) (list_all (λ x. is_quantifiable x.sort) xs) fine in
      elim (true_or_false (is_free x)) [
        | inl stays ↦
            ap (over_values q x.sort sizes) (λ i v. fewer_runs xs parts.1 (assign x v d) (assign x v e) (both_assigned x v d e same) i)
            ∙ sym (ap (λ b. runs q (cond b (x ∷ kept xs) (kept xs)) sizes A e) stays)
        | inr gone ↦
            ap (over_values q x.sort sizes) (λ i v. fewer_runs xs parts.1 (assign x v d) e (unfree_assigned x v d e gone same) i)
            ∙ constant_test q x.sort sizes (runs q (kept xs) sizes A e) parts.0
            ∙ sym (ap (λ b. runs q (cond b (x ∷ kept xs) (kept xs)) sizes A e) gone)
      ]

-- ---- fewer variables

abbrev names : List Variable → List Name
names xs = map (λ x. x.name) xs

module _ (test : Variable → Bool) where
  fewer_pass : (other : Variable → Bool) (xs : List Variable) → list_all other xs ≡ true → list_all other (filter test xs) ≡ true
  fewer_pass other [] h = refl
  fewer_pass other (x ∷ xs) h = let parts = both_true (other x) (list_all other xs) h in go (test x) parts.0 (fewer_pass other xs parts.1)
    where
      go : (b : Bool) → other x ≡ true → list_all other (filter test xs) ≡ true → list_all other (cond b (x ∷ filter test xs) (filter test xs)) ≡ true
      go true here behind = and_true (other x) (list_all other (filter test xs)) here behind
      go false here behind = behind

  fewer_names : (n : Name) (xs : List Variable) → has_name n (names xs) ≡ false → has_name n (names (filter test xs)) ≡ false
  fewer_names n [] h = refl
  fewer_names n (x ∷ xs) h = let parts = both_false (name_eq n x.name) (has_name n (names xs)) h in go (test x) parts.0 (fewer_names n xs parts.1)
    where
      go : (b : Bool) → name_eq n x.name ≡ false → has_name n (names (filter test xs)) ≡ false → has_name n (names (cond b (x ∷ filter test xs) (filter test xs))) ≡ false
      go true here behind = or_false (name_eq n x.name) (has_name n (names (filter test xs))) here behind
      go false here behind = behind

  fewer_distinct : (xs : List Variable) → are_distinct (names xs) ≡ true → are_distinct (names (filter test xs)) ≡ true
  fewer_distinct [] h = refl
  fewer_distinct (x ∷ xs) h =
      let parts = both_true (not (has_name x.name (names xs))) (are_distinct (names xs)) h in
      go (test x) (fewer_names x.name xs (not_true (has_name x.name (names xs)) parts.0)) (fewer_distinct xs parts.1)
    where
      go : (b : Bool) → has_name x.name (names (filter test xs)) ≡ false → are_distinct (names (filter test xs)) ≡ true → are_distinct (names (cond b (x ∷ filter test xs) (filter test xs))) ≡ true
      go true new behind = and_true (not (has_name x.name (names (filter test xs)))) (are_distinct (names (filter test xs))) (ap not new) behind
      go false new behind = behind

-- what `are_bindable` says besides that there is a variable
record Bindable (xs : List Variable) : Type 0 where
  distinct : are_distinct (names xs) ≡ true
  allowed : list_all (λ x. is_quantifiable x.sort) xs ≡ true

bindable : (xs : List Variable) → are_bindable xs ≡ true → Bindable xs
bindable [] h = absurd cc
bindable (x ∷ xs) h =
    let parts = both_true (are_distinct (names (x ∷ xs))) (list_all (λ x. is_quantifiable x.sort) (x ∷ xs)) h in
    record { distinct = parts.0; allowed = parts.1 }

-- ---- the quantifier

module _ (q : Quantifier) (xs : List Variable) (t : Term) (has : sort_of (quantified q xs t) ≡ Some bool) (body : sort_of t ≡ Some bool) (rules : is_regular t ≡ true) where
  abbrev says : Model → Env → Bool
  says m e = is_true (val m t e)

  over_fewer : (ys : List Variable) → Bindable ys → list_all (λ x. is_sort x.sort) ys ≡ true → ((m : Model) (e : Env) → runs q xs m.sizes (says m) e ≡ runs q ys m.sizes (says m) e) → Keeps (quantified q xs t) (over_variables q ys t)
  over_fewer [] fine sorts alike =
      keeps (quantified q xs t) t bool has body rules
      (λ m e model env. equal_same bool m.sizes {a = truth (runs q xs m.sizes (says m) e)} (ap truth (alike m e)))
  over_fewer (y ∷ ys) fine sorts alike =
      keeps (quantified q xs t) (quantified q (y ∷ ys) t) bool has
      (sort_of-quantified q (y ∷ ys) t (and_true (are_distinct (names (y ∷ ys))) (list_all (λ x. is_quantifiable x.sort) (y ∷ ys)) fine.distinct fine.allowed) body)
      (and_true (list_all (λ x. is_sort x.sort) (y ∷ ys)) (is_regular t) sorts rules)
      (λ m e model env. equal_same bool m.sizes (ap truth (alike m e)))

pub fewer_variables_keep : (q : Quantifier) (xs : List Variable) (t : Term) → IsWellSorted (quantified q xs t) → Keeps (quantified q xs t) (quantification q xs t)
fewer_variables_keep q xs t fine =
    let f = fine_term (quantified q xs t) fine in
    let parts = quantified_sort q xs t f.sort f.has in
    let rules = both_true (list_all (λ (x : Variable). is_sort x.sort) xs) (is_regular t) f.rules in
    let all = bindable xs parts.bindable in
    let test : Variable → Bool = λ x. is_among (free t) (constant_of x) in
    over_fewer q xs t (f.has ∙ ap (λ r. Some r) parts.sort) parts.body rules.1 (filter test xs)
    (record { distinct = fewer_distinct test xs all.distinct; allowed = fewer_pass test (λ x. is_quantifiable x.sort) xs all.allowed })
    (fewer_pass test (λ x. is_sort x.sort) xs rules.0)
    (λ m e. fewer_runs (free t) (λ d. is_true (val m t d)) (λ d e same. ap is_true (val_same t m d e same)) q m.sizes xs all.allowed e e (λ g among. refl))
