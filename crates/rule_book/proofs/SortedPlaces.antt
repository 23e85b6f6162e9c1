-- The terms of a view's cells and holes are well sorted where the viewed term is.
use Rattle.std.proofs.Common.{◌≡◌, ℕ, zero, suc, Bool, true, false, cond, ◌⊎◌, inl, inr, List, [], ◌∷◌, ◌++◌, Option, Some, None, refl, ap, sym, ◌∙◌, subst}
use Rattle.std.specs.Prelude.{filter, slice_get, unwrap_or, is_some, not}
use Rattle.std.specs.List.{AllByRecursion}
use Rattle.std.proofs.lemmas.Option.{same_Some}
use Rattle.smt_terms.specs.declared.op.Op.{Op}
use Rattle.smt_terms.specs.Sorts.{Sort, bool}
use Rattle.smt_terms.specs.Term.{Term, apply, quantified, Terms, none, ◌⨾◌, list, terms}
use Rattle.smt_terms.specs.Equal.{term_eq}
use Rattle.smt_terms.specs.Rank.{sort_of, sorts_of, is_regular, are_regular, IsWellSorted}
use Rattle.smt_terms.proofs.Tests.{both_true, and_true}
use Rattle.smt_terms.proofs.Sorted.{applied, sorted}
use Rattle.smt_terms.proofs.SortsOfTerms.{regular}
use Rattle.rule_book.specs.View.{Place, shown_operand, shown_below, operands_of, operands_if, places_below, all_below, places, holes_of}
use Rattle.rule_book.proofs.Holes.{sort_of_term}
use Rattle.rule_book.proofs.ViewCells.{level}

-- ---- what holds of each element of a list

module _ {A : Type 0} (P : A → Type 0) where
  pub all-append : (xs ys : List A) → AllByRecursion P xs → AllByRecursion P ys → AllByRecursion P (xs ++ ys)
  all-append [] ys first second = second
  all-append (x ∷ xs) ys first second = (first.0, all-append xs ys first.1 second)

  pub all-left : (xs ys : List A) → AllByRecursion P (xs ++ ys) → AllByRecursion P xs
  all-left [] ys all = tt
  all-left (x ∷ xs) ys all = (all.0, all-left xs ys all.1)

  pub all-right : (xs ys : List A) → AllByRecursion P (xs ++ ys) → AllByRecursion P ys
  all-right [] ys all = all
  all-right (x ∷ xs) ys all = all-right xs ys all.1

  pub all-at : (xs : List A) (k : ℕ) (a : A) → AllByRecursion P xs → slice_get xs k ≡ Some a → P a
  all-at [] k a all at = absurd cc
  all-at (x ∷ xs) zero a all at = subst P (same_Some x a at) all.0
  all-at (x ∷ xs) (suc k) a all at = all-at xs k a all.1 at

  all-if : (b : Bool) (x : A) (xs : List A) → P x → AllByRecursion P xs → AllByRecursion P (cond b (x ∷ xs) xs)
  all-if true x xs here all = (here, all)
  all-if false x xs here all = all

  pub all-filter : (keep : A → Bool) (xs : List A) → AllByRecursion P xs → AllByRecursion P (filter keep xs)
  all-filter keep [] all = tt
  all-filter keep (x ∷ xs) all = all-if (keep x) x (filter keep xs) all.0 (all-filter keep xs all.1)

  -- an element of two joined lists is at that place of the first, or is one of the second
  pub at-append : (xs ys : List A) (k : ℕ) (a : A) → AllByRecursion P ys → slice_get (xs ++ ys) k ≡ Some a → (slice_get xs k ≡ Some a) ⊎ P a
  at-append [] ys k a all at = inr (all-at ys k a all at)
  at-append (x ∷ xs) ys zero a all at = inl at
  at-append (x ∷ xs) ys (suc k) a all at = at-append xs ys k a all at

-- ---- the terms of places are well sorted

operands_sorted : (ts : Terms) (ss : List Sort) → sorts_of ts ≡ Some ss → are_regular ts ≡ true → AllByRecursion IsWellSorted (list ts)
operands_sorted none ss has fine = tt
operands_sorted (t ⨾ ts) ss has fine =
    let parts = sorted t ts ss has in
    let rules = both_true (is_regular t) (are_regular ts) fine in
    (and_true (is_some (sort_of t)) (is_regular t) (ap is_some parts.first) rules.0, operands_sorted ts parts.sorts parts.others rules.1)

pub some_is : {A : Type 0} (r : Option A) → is_some r ≡ true → (a : A) × (r ≡ Some a)
some_is (Some a) h = (a, refl)
some_is None h = absurd cc

pub has_sort : (t : Term) → IsWellSorted t → (s : Sort) × (sort_of t ≡ Some s)
has_sort t fine = some_is (sort_of t) (both_true (is_some (sort_of t)) (is_regular t) fine).0

pub all_sorted : (t : Term) → IsWellSorted t → AllByRecursion IsWellSorted (operands_of t)
all_sorted (apply h ts) fine =
    let has = has_sort (apply h ts) fine in
    let parts = applied h ts has.0 has.1 in
    operands_sorted ts parts.sorts parts.operands (regular h ts (both_true (is_some (sort_of (apply h ts))) (is_regular (apply h ts)) fine).1).operands
all_sorted (quantified q xs t) fine = tt

some_sorted : (b : Bool) (t : Term) → IsWellSorted t → AllByRecursion IsWellSorted (operands_if b t)
some_sorted true t fine = all_sorted t fine
some_sorted false t fine = tt

abbrev pub AreSorted : List Place → Type 0
AreSorted ps = AllByRecursion (λ p. IsWellSorted p.term) ps

level_sorted : (up : ℕ) (show : Term → Option Op) (ts : List Term) → AllByRecursion IsWellSorted ts → AreSorted (level up show ts)
level_sorted up show [] all = tt
level_sorted up show (t ∷ ts) all = (all.0, level_sorted up show ts all.1)

below_sorted : (k : ℕ) (ts : List Term) → AllByRecursion IsWellSorted ts → AreSorted (all_below k ts)
below_sorted k [] all = tt
below_sorted k (t ∷ ts) all =
    all-append (λ p. IsWellSorted p.term) (places_below k t) (all_below (suc k) ts)
    (level_sorted (suc k) shown_below (operands_if (is_some (shown_operand t)) t) (some_sorted (is_some (shown_operand t)) t all.0))
    (below_sorted (suc k) ts all.1)

pub places_sorted : (ts : List Term) → AllByRecursion IsWellSorted ts → AreSorted (places ts)
places_sorted ts all =
    all-append (λ p. IsWellSorted p.term) (level 0 shown_operand ts) (all_below 0 ts)
    (level_sorted 0 shown_operand ts all) (below_sorted 0 ts all)

pub holes_sorted : (ps : List Place) → AreSorted ps → AllByRecursion IsWellSorted (holes_of ps)
holes_sorted [] all = tt
holes_sorted (p ∷ ps) all = (all.0, all-filter IsWellSorted (λ u. not (term_eq p.term u)) (holes_of ps) (holes_sorted ps all.1))

-- ---- the sort of a well-sorted term

pub terms-list : (ts : Terms) → terms (list ts) ≡ ts
terms-list none = refl
terms-list (t ⨾ ts) = ap (λ us. t ⨾ us) (terms-list ts)

pub sort-some : (t : Term) → IsWellSorted t → sort_of t ≡ Some (sort_of_term t)
sort-some t fine =
    let has = has_sort t fine in
    has.1 ∙ ap (λ r. Some (unwrap_or r bool)) (sym has.1)
