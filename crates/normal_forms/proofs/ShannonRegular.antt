-- Shannon's expansion of a well-sorted term is regular: no unary minus comes to stand over a constant.
use Rattle.std.proofs.Common.{◌≡◌, Bool, true, false, not, cond, ◌&&◌, List, [], ◌∷◌, map, Some, refl, ap, sym, ◌∙◌}
use Rattle.std.specs.Prelude.{is_some}
use Rattle.std.specs.List.{list_all}
use Rattle.smt_terms.specs.declared.op.Op.{Op}
use Rattle.smt_terms.specs.declared.op.Op.TheVariants.{Truth, And, Or}
use Rattle.smt_terms.specs.Sorts.{Sort, bool, int, bit_vector, array, free_sort, Symbol, Variable}
use Rattle.smt_terms.specs.Term.{Quantifier, universal, existential, Head, op, symbol, const_array, Term, apply, quantified, Terms, none, ◌⨾◌, constant_of, constant}
use Rattle.smt_terms.specs.Equal.{symbol_eq}
use Rattle.smt_terms.specs.Free.{is_among}
use Rattle.smt_terms.specs.Rank.{is_sort, has_sorts, is_minus, is_whole, is_minus_of, is_regular, are_regular, are_bindable, sort_of, sorts_of}
use Rattle.smt_terms.specs.Connectives.{truth_term}
use Rattle.smt_terms.specs.Shapes.{is_bool}
use Rattle.smt_terms.proofs.Tests.{both_true, and_true}
use Rattle.smt_terms.proofs.Sorted.{IsApplied, applied, sorted, quantified_sort}
use Rattle.smt_terms.specs.Keeps.{KeepsValues}
use Rattle.smt_terms.proofs.Keeping.{the_sort}
use Rattle.smt_terms.proofs.Respects.{equal_same}
use Rattle.normal_forms.proofs.Shannon.{shannon-sort, shannon-value}
use Rattle.normal_forms.proofs.NnfShape.{regular-over}
use Rattle.normal_forms.specs.Quantifiers.{over_left, not_bool, at_head, unless_bound, at_truth, at_truth_each, expanded, expand_bool, expand_each, shannon, shannon_each}

abbrev Regular : Term → Type 0
Regular t = is_regular t ≡ true

-- ---- a truth value for a variable

-- the same head over other operands, as long as none becomes a constant
pub head-regular : (h : Head) (ts us : Terms) → is_minus_of h us ≡ is_minus_of h ts → Regular (apply h ts) → are_regular us ≡ true → Regular (apply h us)
head-regular h ts us same given each =
    let parts = both_true (has_sorts h) (not (is_minus_of h ts) && are_regular ts) given in
    let rest = both_true (not (is_minus_of h ts)) (are_regular ts) parts.1 in
    and_true (has_sorts h) (not (is_minus_of h us) && are_regular us) parts.0 (and_true (not (is_minus_of h us)) (are_regular us) (ap not same ∙ rest.0) each)

-- what stands in place of a symbol is no integer constant, and neither was the symbol
constant-place : (p : Op) (b : Bool) (v : Bool) (f : Symbol) → is_minus_of (op p) (cond b (truth_term v) (constant f) ⨾ none) ≡ false
unfolding is_minus_of is_whole
constant-place p true v f = never (is_minus p)
  where
    never : (a : Bool) → (a && false) ≡ false
    never true = refl
    never false = refl
constant-place p false v f = refl

unless-place : (p : Op) (b : Bool) (q : Quantifier) (xs : List Variable) (t u : Term) → is_minus_of (op p) (unless_bound b (quantified q xs t) (quantified q xs u) ⨾ none) ≡ false
unfolding is_minus_of
unless-place p true q xs t u = refl
unless-place p false q xs t u = refl

more-minus : (o : Op) (a b : Term) (us : Terms) → is_minus_of (op o) (a ⨾ b ⨾ us) ≡ false
unfolding is_minus_of
more-minus o (apply (op c) none) b us = refl
more-minus o (apply (op c) (w ⨾ ws)) b us = refl
more-minus o (apply (symbol f) ws) b us = refl
more-minus o (apply (const_array s) ws) b us = refl
more-minus o (quantified q xs w) b us = refl

at-minus : (h : Head) (v : Bool) (x : Variable) (ts : Terms) → is_minus_of h (at_truth_each v x ts) ≡ is_minus_of h ts
unfolding is_minus_of
at-minus (symbol f) v x ts = refl
at-minus (const_array s) v x ts = refl
at-minus (op p) v x none = refl
at-minus (op p) v x (t ⨾ u ⨾ ts) = more-minus p (at_truth v x t) (at_truth v x u) (at_truth_each v x ts) ∙ sym (more-minus p t u ts)
at-minus (op p) v x (apply (symbol f) none ⨾ none) = constant-place p (symbol_eq (constant_of x) f) v f
at-minus (op p) v x (apply (symbol f) (w ⨾ ws) ⨾ none) = refl
at-minus (op p) v x (apply (op c) none ⨾ none) = refl
at-minus (op p) v x (apply (op c) (w ⨾ ws) ⨾ none) = refl
at-minus (op p) v x (apply (const_array s) ws ⨾ none) = refl
at-minus (op p) v x (quantified q xs w ⨾ none) = unless-place p (is_among (map constant_of xs) (constant_of x)) q xs w (at_truth v x w)

at_head-regular : (v : Bool) (x : Variable) (h : Head) (ts : Terms) → Regular (apply h ts) → Regular (at_head v x h ts)
unfolding is_minus
at_head-regular v x (symbol f) none given = go (symbol_eq (constant_of x) f)
  where
    go : (b : Bool) → is_regular (cond b (truth_term v) (constant f)) ≡ true
    go true = regular-over (Truth v) none refl refl
    go false = given
at_head-regular v x (symbol f) (t ⨾ ts) given = given
at_head-regular v x (op o) ts given = given
at_head-regular v x (const_array s) ts given = given

unless-regular : (b : Bool) (t u : Term) → Regular t → Regular u → Regular (unless_bound b t u)
unless-regular true t u a c = a
unless-regular false t u a c = c

operands-regular : (h : Head) (ts : Terms) → Regular (apply h ts) → are_regular ts ≡ true
operands-regular h ts given = (both_true (not (is_minus_of h ts)) (are_regular ts) (both_true (has_sorts h) (not (is_minus_of h ts) && are_regular ts) given).1).1

mutual
  pub at_truth-regular : (t : Term) (v : Bool) (x : Variable) → Regular t → Regular (at_truth v x t)
  at_truth-regular (apply h ts) v x given =
      at_head-regular v x h (at_truth_each v x ts) (head-regular h ts (at_truth_each v x ts) (at-minus h v x ts) given (at_truths-regular ts v x (operands-regular h ts given)))
  at_truth-regular (quantified q xs body) v x given =
      let parts = both_true (list_all (λ y. is_sort y.sort) xs) (is_regular body) given in
      unless-regular (is_among (map constant_of xs) (constant_of x)) (quantified q xs body) (quantified q xs (at_truth v x body)) given
      (and_true (list_all (λ y. is_sort y.sort) xs) (is_regular (at_truth v x body)) parts.0 (at_truth-regular body v x parts.1))

  at_truths-regular : (ts : Terms) (v : Bool) (x : Variable) → are_regular ts ≡ true → are_regular (at_truth_each v x ts) ≡ true
  at_truths-regular none v x given = refl
  at_truths-regular (t ⨾ ts) v x given =
      let parts = both_true (is_regular t) (are_regular ts) given in
      and_true (is_regular (at_truth v x t)) (are_regular (at_truth_each v x ts)) (at_truth-regular t v x parts.0) (at_truths-regular ts v x parts.1)

-- ---- the expansion of a body

expanded-regular : (q : Quantifier) (x : Variable) (b : Term) → Regular b → Regular (expanded q x b)
unfolding is_minus
expanded-regular existential x b a = regular-over Or (at_truth true x b ⨾ at_truth false x b ⨾ none) refl (and_true (is_regular (at_truth true x b)) (is_regular (at_truth false x b) && true) (at_truth-regular b true x a) (and_true (is_regular (at_truth false x b)) true (at_truth-regular b false x a) refl))
expanded-regular universal x b a = regular-over And (at_truth true x b ⨾ at_truth false x b ⨾ none) refl (and_true (is_regular (at_truth true x b)) (is_regular (at_truth false x b) && true) (at_truth-regular b true x a) (and_true (is_regular (at_truth false x b)) true (at_truth-regular b false x a) refl))

expand_bool-regular : (s : Sort) (q : Quantifier) (x : Variable) (b : Term) → Regular b → Regular (expand_bool s q x b)
expand_bool-regular bool q x b a = expanded-regular q x b a
expand_bool-regular int q x b a = a
expand_bool-regular (bit_vector w) q x b a = a
expand_bool-regular (array i e) q x b a = a
expand_bool-regular (free_sort n) q x b a = a

expand_each-regular : (q : Quantifier) (xs : List Variable) (b : Term) → Regular b → Regular (expand_each q xs b)
expand_each-regular q [] b a = a
expand_each-regular q (x ∷ xs) b a = expand_bool-regular x.sort q x (expand_each q xs b) (expand_each-regular q xs b a)

pub kept-sorts : (xs : List Variable) → list_all (λ x. is_sort x.sort) xs ≡ true → list_all (λ x. is_sort x.sort) (not_bool xs) ≡ true
kept-sorts [] e = refl
kept-sorts (x ∷ xs) e =
    let parts = both_true (is_sort x.sort) (list_all (λ y. is_sort y.sort) xs) e in
    go (is_bool x.sort) parts.0 (kept-sorts xs parts.1)
  where
    go : (b : Bool) → is_sort x.sort ≡ true → list_all (λ y. is_sort y.sort) (not_bool xs) ≡ true → list_all (λ y. is_sort y.sort) (cond (not b) (x ∷ not_bool xs) (not_bool xs)) ≡ true
    go true here below = below
    go false here below = and_true (is_sort x.sort) (list_all (λ y. is_sort y.sort) (not_bool xs)) here below

pub over-left-regular : (q : Quantifier) (ys : List Variable) (b : Term) → list_all (λ y. is_sort y.sort) ys ≡ true → Regular b → Regular (over_left q ys b)
over-left-regular q [] b sorts a = a
over-left-regular q (y ∷ ys) b sorts a = and_true (list_all (λ z. is_sort z.sort) (y ∷ ys)) (is_regular b) sorts a

-- what becomes of a quantified term is no integer constant
over-left-minus : (p : Op) (q : Quantifier) (ys : List Variable) (x : Variable) (b : Term) → is_minus_of (op p) (over_left q ys (expanded q x b) ⨾ none) ≡ false
unfolding is_minus_of
over-left-minus p universal [] x b = refl
over-left-minus p existential [] x b = refl
over-left-minus p q (y ∷ ys) x b = refl

quantified-minus : (p : Op) (q : Quantifier) (x : Variable) (xs : List Variable) (b : Term) → is_minus_of (op p) (over_left q (not_bool (x ∷ xs)) (expand_each q (x ∷ xs) b) ⨾ none) ≡ false
unfolding is_minus_of
quantified-minus p q x xs b = go x.sort
  where
    go : (s : Sort) → is_minus_of (op p) (over_left q (cond (not (is_bool s)) (x ∷ not_bool xs) (not_bool xs)) (expand_bool s q x (expand_each q xs b)) ⨾ none) ≡ false
    go bool = over-left-minus p q (not_bool xs) x (expand_each q xs b)
    go int = refl
    go (bit_vector w) = refl
    go (array i e) = refl
    go (free_sort n) = refl

-- ---- all terms

bindable-minus : (p : Op) (q : Quantifier) (xs : List Variable) (b : Term) → are_bindable xs ≡ true → is_minus_of (op p) (over_left q (not_bool xs) (expand_each q xs b) ⨾ none) ≡ false
bindable-minus p q [] b bindable = absurd cc
bindable-minus p q (x ∷ xs) b bindable = quantified-minus p q x xs b

shannon-minus : (h : Head) (ts : Terms) (ss : List Sort) → sorts_of ts ≡ Some ss → is_minus_of h (shannon_each ts) ≡ is_minus_of h ts
unfolding is_minus_of
shannon-minus (symbol f) ts ss has = refl
shannon-minus (const_array s) ts ss has = refl
shannon-minus (op p) none ss has = refl
shannon-minus (op p) (t ⨾ u ⨾ ts) ss has = more-minus p (shannon t) (shannon u) (shannon_each ts) ∙ sym (more-minus p t u ts)
shannon-minus (op p) (apply (symbol f) ws ⨾ none) ss has = refl
shannon-minus (op p) (apply (op c) none ⨾ none) ss has = refl
shannon-minus (op p) (apply (op c) (w ⨾ ws) ⨾ none) ss has = refl
shannon-minus (op p) (apply (const_array s) ws ⨾ none) ss has = refl
shannon-minus (op p) (quantified q xs w ⨾ none) ss has =
    let a = sorted (quantified q xs w) none ss has in
    bindable-minus p q xs (shannon w) (quantified_sort q xs w a.sort a.first).bindable

mutual
  pub shannon-regular : (t : Term) (s : Sort) → sort_of t ≡ Some s → is_regular t ≡ true → is_regular (shannon t) ≡ true
  shannon-regular (apply h ts) s has given =
      let a : IsApplied h ts s = applied h ts s has in
      head-regular h ts (shannon_each ts) (shannon-minus h ts a.sorts a.operands) given (shannons-regular ts a.sorts a.operands (operands-regular h ts given))
  shannon-regular (quantified q xs body) s has given =
      let parts = both_true (list_all (λ x. is_sort x.sort) xs) (is_regular body) given in
      over-left-regular q (not_bool xs) (expand_each q xs (shannon body)) (kept-sorts xs parts.0)
      (expand_each-regular q xs (shannon body) (shannon-regular body bool (quantified_sort q xs body s has).body parts.1))

  shannons-regular : (ts : Terms) (ss : List Sort) → sorts_of ts ≡ Some ss → are_regular ts ≡ true → are_regular (shannon_each ts) ≡ true
  shannons-regular none ss has given = refl
  shannons-regular (t ⨾ ts) ss has given =
      let a = sorted t ts ss has in
      let parts = both_true (is_regular t) (are_regular ts) given in
      and_true (is_regular (shannon t)) (are_regular (shannon_each ts)) (shannon-regular t a.sort a.first parts.0) (shannons-regular ts a.sorts a.others parts.1)

-- ---- the law

pub shannon-keeps : KeepsValues shannon
shannon-keeps t sorted =
    let parts = both_true (is_some (sort_of t)) (is_regular t) sorted in
    let found = the_sort (sort_of t) parts.0 in
    let has : sort_of (shannon t) ≡ Some found.0 = shannon-sort t found.0 found.1 in
    record {
      sorted = and_true (is_some (sort_of (shannon t))) (is_regular (shannon t)) (ap is_some has) (shannon-regular t found.0 found.1 parts.1);
      sort = has ∙ sym found.1;
      value = λ m e s model env is. equal_same s m.sizes (sym (shannon-value t s is m e));
    }
