-- Values by their places in a list of operands.
use Rattle.std.proofs.Common.{◌≡◌, ◌∙◌, sym, ap, subst, refl, ℕ, zero, suc, ◌+◌, ◌-◌, ◌<◌, Bool, true, not, ◌&&◌, List, [], ◌∷◌, length, All, get_or, take, drop, replicate, swap_remove, slice_index_or, arith, add-one, drop-cons, length-drop, Box, Global}
use Rattle.std.specs.List.{list_any}
use Rattle.std.proofs.lemmas.List.{take_all}
use Rattle.std.proofs.lemmas.List.Elements.{All-nil, All-cons, All-head, All-tail}
use Rattle.smt_terms.specs.Operators.{first_value, second_value, third_value, all_distinct}
use Rattle.smt_terms.specs.Sorts.{Sort, array}
use Rattle.smt_terms.specs.Values as plain
use Rattle.smt_terms.specs.Values.{Sizes, is_value, are_values}
use Rattle.smt_terms.proofs.Tests.{both_true}
use Rattle.smt_values.specs.Meaning.{meaning, IsHeld}
use Rattle.smt_values.specs.Valid.{IsValue}
use Rattle.smt_values.specs.declared.scalar.Scalar.TheVariants.{Truth, Whole, Bits}
use Rattle.smt_values.specs.declared.value.ArrayValue.{ArrayValue}
use Rattle.smt_values.specs.declared.value.Value.{Value}
use Rattle.smt_values.specs.declared.value.Value.TheVariants.{Scalar as OfScalar, Element, Array}
use Rattle.models.specs.GraphRows.{meanings, AreValues}

pub first-at : (vs : List Value) (v : Value) → 0 < length vs → v ≡ get_or vs 0 v → first_value (meanings vs) ≡ meaning v
first-at [] v lt is = absurd (omega arith)
first-at (w ∷ vs) v lt is = ap meaning (sym is)

pub second-at : (vs : List Value) (v : Value) → 1 < length vs → v ≡ get_or vs 1 v → second_value (meanings vs) ≡ meaning v
second-at [] v lt is = absurd (omega arith)
second-at (w ∷ vs) v lt is = first-at vs v (omega arith) is

pub third-at : (vs : List Value) (v : Value) → 2 < length vs → v ≡ get_or vs 2 v → third_value (meanings vs) ≡ meaning v
third-at [] v lt is = absurd (omega arith)
third-at (w ∷ vs) v lt is = second-at vs v (omega arith) is

module _ (sizes : Sizes) where
  -- one value for each sort
  pub values-count : (ss : List Sort) (vs : List Value) → are_values ss sizes (meanings vs) ≡ true → length vs ≡ length ss
  values-count [] [] h = refl
  values-count [] (v ∷ vs) h = absurd cc
  values-count (s ∷ ss) [] h = absurd cc
  values-count (s ∷ ss) (v ∷ vs) h = ap suc (values-count ss vs (both_true (is_value s sizes (meaning v)) (are_values ss sizes (meanings vs)) h).1)

  later-values : (s : Sort) (ss : List Sort) (v : Value) (vs : List Value) → AreValues (s ∷ ss) sizes (v ∷ vs) → AreValues ss sizes vs
  later-values s ss v vs are = record { held = All-tail IsHeld v vs are.held; valid = (both_true (is_value s sizes (meaning v)) (are_values ss sizes (meanings vs)) are.valid).1 }

  first-value : (s : Sort) (ss : List Sort) (v : Value) (vs : List Value) → AreValues (s ∷ ss) sizes (v ∷ vs) → IsValue s sizes v
  first-value s ss v vs are = record { held = All-head IsHeld v vs are.held; valid = (both_true (is_value s sizes (meaning v)) (are_values ss sizes (meanings vs)) are.valid).0 }

  -- the value at a place has the sort there
  pub first-valued : (s : Sort) (ss : List Sort) (vs : List Value) (v : Value) → AreValues (s ∷ ss) sizes vs → v ≡ get_or vs 0 v → IsValue s sizes v
  first-valued s ss [] v are is = let h = are.valid in absurd cc
  first-valued s ss (w ∷ vs) v are is = subst (IsValue s sizes) (sym is) (first-value s ss w vs are)

  pub second-valued : (r s : Sort) (ss : List Sort) (vs : List Value) (v : Value) → AreValues (r ∷ s ∷ ss) sizes vs → v ≡ get_or vs 1 v → IsValue s sizes v
  second-valued r s ss [] v are is = let h = are.valid in absurd cc
  second-valued r s ss (w ∷ vs) v are is = first-valued s ss vs v (later-values r (s ∷ ss) w vs are) is

  pub third-valued : (q r s : Sort) (ss : List Sort) (vs : List Value) (v : Value) → AreValues (q ∷ r ∷ s ∷ ss) sizes vs → v ≡ get_or vs 2 v → IsValue s sizes v
  third-valued q r s ss [] v are is = let h = are.valid in absurd cc
  third-valued q r s ss (w ∷ vs) v are is = second-valued r s ss vs v (later-values q (r ∷ s ∷ ss) w vs are) is

  -- values of one sort
  pub alike-values : (s : Sort) (n : ℕ) (vs : List Value) → AreValues (replicate n s) sizes vs → All (IsValue s sizes) vs
  alike-values s zero [] are = All-nil (IsValue s sizes)
  alike-values s zero (v ∷ vs) are = let h = are.valid in absurd cc
  alike-values s (suc n) [] are = let h = are.valid in absurd cc
  alike-values s (suc n) (v ∷ vs) are = All-cons (IsValue s sizes) v vs (first-value s (replicate n s) v vs are) (alike-values s n vs (later-values s (replicate n s) v vs are))

-- ---- three operands that are taken out, the last first

pub taken-out : (vs ws us : List Value) (x y z d e : Value) → length vs ≡ 3 → z ≡ slice_index_or vs 2 z → ws ≡ swap_remove vs 2 d → y ≡ slice_index_or ws 1 y → us ≡ swap_remove ws 1 e → x ≡ slice_index_or us 0 x → vs ≡ x ∷ y ∷ z ∷ []
taken-out [] ws us x y z d e n third before second sooner first = absurd (omega arith)
taken-out (a ∷ []) ws us x y z d e n third before second sooner first = absurd (omega arith)
taken-out (a ∷ b ∷ []) ws us x y z d e n third before second sooner first = absurd (omega arith)
taken-out (a ∷ b ∷ c ∷ []) ws us x y z d e n third before second sooner first =
    let two : ws ≡ a ∷ b ∷ [] = before in
    let one : us ≡ a ∷ [] = sooner ∙ ap (λ l. swap_remove l 1 e) two in
    let is : x ≡ a = first ∙ ap (λ l. slice_index_or l 0 x) one in
    let next : y ≡ b = second ∙ ap (λ l. slice_index_or l 1 y) two in
    let last : z ≡ c = third in
    λ i. sym is i ∷ sym next i ∷ sym last i ∷ []
taken-out (a ∷ b ∷ c ∷ o ∷ os) ws us x y z d e n third before second sooner first = absurd (omega arith)

-- ---- arrays

pub array-told : (i e : Sort) (sizes : Sizes) (v : Value) → is_value (array i e) sizes (meaning v) ≡ true → ((b : Box ArrayValue Global) → v ≡ Array b → ⊥) → ⊥
array-told i e sizes (Array b) h n = n b refl
array-told i e sizes (Element k) h n = cc
array-told i e sizes (OfScalar (Truth b)) h n = cc
array-told i e sizes (OfScalar (Whole k)) h n = cc
array-told i e sizes (OfScalar (Bits w k)) h n = cc

-- no two of the values from a place on
pub distinct-at : (equal : plain.Value → plain.Value → Bool) (vs : List Value) (i : ℕ) (v : Value) → i < length vs → v ≡ get_or vs i v → all_distinct equal (meanings (drop i vs)) ≡ (not (list_any (equal (meaning v)) (meanings (drop (i + 1) vs))) && all_distinct equal (meanings (drop (i + 1) vs)))
distinct-at equal vs i v lt is =
    let first : drop i vs ≡ get_or vs i v ∷ drop (i + 1) vs = rw (add-one, drop-cons vs i v lt) in
    ap (λ ws. all_distinct equal (meanings ws)) first ∙ ap (λ w. all_distinct equal (meaning w ∷ meanings (drop (i + 1) vs))) (sym is)

-- the values from a place on, as a slice has them
pub all-later : (vs : List Value) (i : ℕ) → take (length vs - i) (drop i vs) ≡ drop i vs
all-later vs i = take_all (length vs - i) (drop i vs) (omega (arith, length-drop i vs))
