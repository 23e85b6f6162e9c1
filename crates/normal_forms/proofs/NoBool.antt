-- Shannon's expansion leaves no quantifier over truth values.
use Rattle.std.proofs.Common.{◌≡◌, Bool, true, false, not, cond, ◌&&◌, ◌||◌, List, [], ◌∷◌, map, refl, ap, ◌∙◌}
use Rattle.std.specs.List.{list_any}
use Rattle.smt_terms.specs.Sorts.{Sort, bool, int, bit_vector, array, free_sort, Variable}
use Rattle.smt_terms.specs.Term.{Quantifier, universal, existential, Head, op, symbol, const_array, Term, apply, quantified, Terms, none, ◌⨾◌, constant_of, constant}
use Rattle.smt_terms.specs.Equal.{symbol_eq}
use Rattle.smt_terms.specs.Free.{is_among}
use Rattle.smt_terms.specs.Connectives.{truth_term}
use Rattle.smt_terms.specs.Shapes.{is_bool, no_bool_quantifier, no_bool_quantifiers}
use Rattle.smt_terms.proofs.Tests.{both_true, and_true}
use Rattle.normal_forms.specs.Quantifiers.{over_left, not_bool, at_head, unless_bound, at_truth, at_truth_each, expanded, expand_bool, expand_each, shannon, shannon_each}

abbrev Free : Term → Type 0
Free t = no_bool_quantifier t ≡ true

abbrev AllFree : Terms → Type 0
AllFree ts = no_bool_quantifiers ts ≡ true

head-free : (v : Bool) (x : Variable) (h : Head) (ts : Terms) → AllFree ts → Free (at_head v x h ts)
head-free v x (symbol f) none all = go (symbol_eq (constant_of x) f)
  where
    go : (b : Bool) → no_bool_quantifier (cond b (truth_term v) (constant f)) ≡ true
    go true = refl
    go false = refl
head-free v x (symbol f) (t ⨾ ts) all = all
head-free v x (op o) ts all = all
head-free v x (const_array s) ts all = all

unless-free : (b : Bool) (t u : Term) → Free t → Free u → Free (unless_bound b t u)
unless-free true t u a c = a
unless-free false t u a c = c

mutual
  pub at_truth-free : (t : Term) (v : Bool) (x : Variable) → Free t → Free (at_truth v x t)
  at_truth-free (apply h ts) v x all = head-free v x h (at_truth_each v x ts) (at_truth-all ts v x all)
  at_truth-free (quantified q xs body) v x all =
      let parts = both_true (not (list_any (λ y. is_bool y.sort) xs)) (no_bool_quantifier body) all in
      unless-free (is_among (map constant_of xs) (constant_of x)) (quantified q xs body) (quantified q xs (at_truth v x body)) all
      (and_true (not (list_any (λ y. is_bool y.sort) xs)) (no_bool_quantifier (at_truth v x body)) parts.0 (at_truth-free body v x parts.1))

  at_truth-all : (ts : Terms) (v : Bool) (x : Variable) → AllFree ts → AllFree (at_truth_each v x ts)
  at_truth-all none v x all = refl
  at_truth-all (t ⨾ ts) v x all =
      let parts = both_true (no_bool_quantifier t) (no_bool_quantifiers ts) all in
      and_true (no_bool_quantifier (at_truth v x t)) (no_bool_quantifiers (at_truth_each v x ts)) (at_truth-free t v x parts.0) (at_truth-all ts v x parts.1)

two-free : (s t : Term) → Free s → Free t → (no_bool_quantifier s && (no_bool_quantifier t && true)) ≡ true
two-free s t a b = and_true (no_bool_quantifier s) (no_bool_quantifier t && true) a (and_true (no_bool_quantifier t) true b refl)

expanded-free : (q : Quantifier) (x : Variable) (b : Term) → Free b → Free (expanded q x b)
expanded-free existential x b a = two-free (at_truth true x b) (at_truth false x b) (at_truth-free b true x a) (at_truth-free b false x a)
expanded-free universal x b a = two-free (at_truth true x b) (at_truth false x b) (at_truth-free b true x a) (at_truth-free b false x a)

expand_bool-free : (s : Sort) (q : Quantifier) (x : Variable) (b : Term) → Free b → Free (expand_bool s q x b)
expand_bool-free bool q x b a = expanded-free q x b a
expand_bool-free int q x b a = a
expand_bool-free (bit_vector w) q x b a = a
expand_bool-free (array i e) q x b a = a
expand_bool-free (free_sort n) q x b a = a

expand_each-free : (q : Quantifier) (xs : List Variable) (b : Term) → Free b → Free (expand_each q xs b)
expand_each-free q [] b a = a
expand_each-free q (x ∷ xs) b a = expand_bool-free x.sort q x (expand_each q xs b) (expand_each-free q xs b a)

pub kept-not_bool : (xs : List Variable) → list_any (λ x. is_bool x.sort) (not_bool xs) ≡ false
kept-not_bool [] = refl
kept-not_bool (x ∷ xs) = go (is_bool x.sort) refl (kept-not_bool xs)
  where
    go : (b : Bool) → is_bool x.sort ≡ b → list_any (λ y. is_bool y.sort) (not_bool xs) ≡ false → list_any (λ y. is_bool y.sort) (cond (not b) (x ∷ not_bool xs) (not_bool xs)) ≡ false
    go true e below = below
    go false e below = ap (λ c. c || list_any (λ y. is_bool y.sort) (not_bool xs)) e ∙ below

pub over-left-free : (q : Quantifier) (ys : List Variable) (b : Term) → list_any (λ x. is_bool x.sort) ys ≡ false → no_bool_quantifier b ≡ true → no_bool_quantifier (over_left q ys b) ≡ true
over-left-free q [] b clean a = a
over-left-free q (y ∷ ys) b clean a = and_true (not (list_any (λ x. is_bool x.sort) (y ∷ ys))) (no_bool_quantifier b) (ap not clean) a

mutual
  pub shannon-free : (t : Term) → no_bool_quantifier (shannon t) ≡ true
  shannon-free (apply h ts) = shannons-free ts
  shannon-free (quantified q xs body) = over-left-free q (not_bool xs) (expand_each q xs (shannon body)) (kept-not_bool xs) (expand_each-free q xs (shannon body) (shannon-free body))

  shannons-free : (ts : Terms) → no_bool_quantifiers (shannon_each ts) ≡ true
  shannons-free none = refl
  shannons-free (t ⨾ ts) = and_true (no_bool_quantifier (shannon t)) (no_bool_quantifiers (shannon_each ts)) (shannon-free t) (shannons-free ts)
