-- An operator over constants, as scalars.
use Rattle.std.proofs.Common.{◌≡◌, ℕ, zero, suc, ◌+◌, ◌^◌, ◌<◌, inl, inr, true, false, ◌&&◌, ℤ, pos, negsuc, List, [], ◌∷◌, ◌++◌, map, length, get_or, All, Option, Some, None, refl, ap, sym, ◌∙◌, subst, arith, length-append}
use Rattle.std.proofs.Math.ListN.{get_or-append}
use Rattle.std.proofs.Math.Seq.{get_or-append_seam}
use Rattle.std.proofs.lemmas.Bool.Decides.{eqb_tells, Decides-int_eq}
use Rattle.std.proofs.lemmas.List.Elements.{All-head}
use Rattle.std.specs.Prelude.{neg_ℤ, option_and_then, unsigned_abs, if◌then◌else◌}
use Rattle.std.specs.Ordering.{int_eq}
use Rattle.smt_terms.specs.declared.op.Op.{Op}
use Rattle.smt_terms.specs.declared.op.Op.TheVariants.{Whole, Neg, Div, Mod}
use Rattle.smt_terms.specs.Sorts.{Sort}
use Rattle.smt_terms.specs.Term.{op, Term, apply, none, terms}
use Rattle.smt_terms.specs.Constants.{whole_term, literal_value, constant_value}
use Rattle.smt_terms.specs.Equal.{op_eq}
use Rattle.smt_terms.specs.Operators.{op_value, second_value}
use Rattle.smt_terms.specs.Rank.{is_minus, is_whole, is_minus_of, IsWellSorted}
use Rattle.smt_terms.specs.Val.{within_range}
use Rattle.smt_terms.specs.Values.{Value, number}
use Rattle.smt_terms.proofs.Ranked.{lt_true}
use Rattle.smt_terms.proofs.Tests.{contrary, true_or_false}
use Rattle.smt_values.specs.Applied.{HasDivisor}
use Rattle.smt_values.specs.Meaning.{scalar_value, scalar_sort}
use Rattle.smt_values.specs.declared.scalar.Scalar.{Scalar}
use Rattle.term_table.specs.Formulas.{no_tree, sort_or_bool, sorts_in}
use Rattle.simplify.specs.Folding.{with_value, constant_values, divides_by_zero, folded_values, folded}
use Rattle.simplify.specs.Scalars.{AreConstants, AreUnfolded}
use Rattle.simplify.proofs.ConstantTests.{IsConstantOf, whole_constant}

-- ---- constants, one for each operand

abbrev pub ConstantsAt : List Term → List Scalar → Type 0
ConstantsAt ts ks = (i : ℕ) (d : Scalar) → i < length ks → IsConstantOf (get_or ts i no_tree) (get_or ks i d)

pub constants-push : (ts : List Term) (ks new : List Scalar) (n : ℕ) (k : Scalar) → length ks ≡ n → ConstantsAt ts ks → IsConstantOf (get_or ts n no_tree) k → new ≡ ks ++ k ∷ [] → ConstantsAt ts new
constants-push ts ks new n k count before here is i d lt =
    let more : length new ≡ length ks + 1 = ap length is ∙ length-append ks (k ∷ []) in
    elim (eqb_tells i n) [
      | inl same ↦
          let last : get_or new i d ≡ k = ap (λ xs. get_or xs i d) is ∙ ap (λ j. get_or (ks ++ k ∷ []) j d) (same.1 ∙ sym count) ∙ get_or-append_seam ks k [] d in
          subst (λ (s : Scalar). IsConstantOf (get_or ts i no_tree) s) (sym last) (subst (λ (u : Term). IsConstantOf u k) (ap (λ j. get_or ts j no_tree) (sym same.1)) here)
      | inr apart ↦
          let a = apart.1 in
          let below : i < length ks = omega (arith, a, count, more, lt) in
          let there : get_or new i d ≡ get_or ks i d = ap (λ xs. get_or xs i d) is ∙ get_or-append ks (k ∷ []) d i below in
          subst (λ (s : Scalar). IsConstantOf (get_or ts i no_tree) s) (sym there) (before i d below)
    ]

record Collected (ts : List Term) (ks : List Scalar) : Type 0 where
  values : constant_values ts ≡ Some (map scalar_value ks)
  sorts : sorts_in ts ≡ map scalar_sort ks

collected : (ts : List Term) (ks : List Scalar) → length ks ≡ length ts → ConstantsAt ts ks → Collected ts ks
collected [] [] count each = record { values = refl; sorts = refl }
collected [] (k ∷ ks) count each = absurd (omega (arith, count))
collected (t ∷ ts) [] count each = absurd (omega (arith, count))
collected (t ∷ ts) (k ∷ ks) count each =
    let first : IsConstantOf t k = each 0 k (omega arith) in
    let rest : Collected ts ks = collected ts ks (omega (arith, count)) (λ i d lt. each (suc i) d (omega arith)) in
    record {
      values = λ i. with_value (first.value i) (rest.values i);
      sorts = λ i. sort_or_bool (first.sort i) ∷ rest.sorts i;
    }

pub are-constants : (ts : List Term) (ks : List Scalar) → length ks ≡ length ts → 0 < length ts → ConstantsAt ts ks → AreConstants ts ks
are-constants ts ks count some each =
    let all = collected ts ks count each in
    record { some = some; values = all.values; sorts = all.sorts; scalars = λ i d lt. (each i d lt).scalar }

-- ---- an operand that is none

missing-values : (ts : List Term) (i : ℕ) → i < length ts → constant_value (get_or ts i no_tree) ≡ None → constant_values ts ≡ None
missing-values [] i lt e = absurd (omega arith)
missing-values (t ∷ ts) zero lt e = ap (λ o. with_value o (constant_values ts)) e
missing-values (t ∷ ts) (suc i) lt e = ap (with_value (constant_value t)) (missing-values ts i (omega arith) e) ∙ none-behind (constant_value t)
  where
    none-behind : (o : Option Value) → with_value o None ≡ None
    none-behind (Some v) = refl
    none-behind None = refl

unfolded : (ts : List Term) → constant_values ts ≡ None → AreUnfolded ts
unfolded [] e o ss = refl
unfolded (t ∷ ts) e o ss = ap (option_and_then (folded_values o ss)) e

pub missing-constant : (ts : List Term) (i : ℕ) → i < length ts → constant_value (get_or ts i no_tree) ≡ None → AreUnfolded ts
missing-constant ts i lt e = unfolded ts (missing-values ts i lt e)

-- ---- the divisor

pub over-div : (vs : List Value) → divides_by_zero Div vs ≡ int_eq (number (second_value vs)) (pos 0)
unfolding op_eq
over-div vs = refl

pub over-mod : (vs : List Value) → divides_by_zero Mod vs ≡ int_eq (number (second_value vs)) (pos 0)
unfolding op_eq
over-mod vs = refl

pub has-divisor : (o : Op) (ks : List Scalar) → divides_by_zero o (map scalar_value ks) ≡ false → HasDivisor o ks
unfolding op_eq
has-divisor Div ks e = λ zero_there. contrary (int_eq (number (second_value (map scalar_value ks))) (pos 0)) ((Decides-int_eq (number (second_value (map scalar_value ks))) (pos 0)).1 zero_there) e
has-divisor Mod ks e = λ zero_there. contrary (int_eq (number (second_value (map scalar_value ks))) (pos 0)) ((Decides-int_eq (number (second_value (map scalar_value ks))) (pos 0)).1 zero_there) e
has-divisor _ ks e = tt

pub never-divides : (o : Op) (vs : List Value) → (o ≡ Div → ⊥) → (o ≡ Mod → ⊥) → divides_by_zero o vs ≡ false
unfolding op_eq
never-divides Div vs f g = absurd (f refl)
never-divides Mod vs f g = absurd (g refl)
never-divides _ vs f g = refl

-- ---- a unary minus over a constant is folded

opposite-size : (n : ℤ) → unsigned_abs (neg_ℤ n) ≡ unsigned_abs n
opposite-size (pos zero) = refl
opposite-size (pos (suc n)) = refl
opposite-size (negsuc n) = refl

only-minus : (p : Op) → is_minus p ≡ true → p ≡ Neg
unfolding is_minus
only-minus Neg e = refl
only-minus _ e = absurd cc

other-minus : (p : Op) (ts : List Term) → is_minus p ≡ false → is_minus_of (op p) (terms ts) ≡ false
unfolding is_minus_of
other-minus p (apply (op c) none ∷ []) e = ap (λ b. b && is_whole c) e
other-minus p _ e = refl

minus-folded : (n : ℤ) (ss : List Sort) → IsWellSorted (whole_term n) → folded Neg ss (whole_term n ∷ []) ≡ None → ⊥
unfolding op_value literal_value op_eq
minus-folded n ss fine e =
    let range = (whole_constant n (whole_term n) [] fine refl).scalar in
    let within : within_range (neg_ℤ n) ≡ true = lt_true (unsigned_abs (neg_ℤ n)) (2 ^ 127) (subst (λ k. k < 2 ^ 127) (sym (opposite-size n)) range) in
    let some : Some (whole_term (neg_ℤ n)) ≡ None = sym (ap (λ b. if b then Some (whole_term (neg_ℤ n)) else None) within) ∙ e in
    absurd cc

minus-constant : (c : Op) (ss : List Sort) → IsWellSorted (apply (op c) none) → folded Neg ss (apply (op c) none ∷ []) ≡ None → is_whole c ≡ false
unfolding is_whole
minus-constant (Whole n) ss fine e = absurd (minus-folded n ss fine e)
minus-constant _ ss fine e = refl

minus-unfolded : (ts : List Term) (ss : List Sort) → All IsWellSorted ts → folded Neg ss ts ≡ None → is_minus_of (op Neg) (terms ts) ≡ false
unfolding is_minus_of is_minus
minus-unfolded (apply (op c) none ∷ []) ss fine e = minus-constant c ss (All-head IsWellSorted (apply (op c) none) [] fine) e
minus-unfolded _ ss fine e = refl

pub unfolded-minus : (p : Op) (ts : List Term) (ss : List Sort) → All IsWellSorted ts → folded p ss ts ≡ None → is_minus_of (op p) (terms ts) ≡ false
unfolded-minus p ts ss fine e = elim (true_or_false (is_minus p)) [
  | inl unary ↦
      let one : p ≡ Neg = only-minus p unary in
      ap (λ o. is_minus_of (op o) (terms ts)) one ∙ minus-unfolded ts ss fine (ap (λ o. folded o ss ts) (sym one) ∙ e)
  | inr other ↦ other-minus p ts other
]
