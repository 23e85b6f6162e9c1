-- Operators that take scalars alone, and the scalars that they take.
use Rattle.std.proofs.Common.{◌≡◌, ◌∙◌, sym, ap, subst, refl, ℕ, zero, suc, Bool, true, false, List, [], ◌∷◌, length, map, All, replicate, true≢false, ◌≢◌, cond, ℤ, pos}
use Rattle.std.specs.Int.{int_div_euclid, int_rem_euclid}
use Rattle.std.specs.List.{list_all}
use Rattle.std.specs.Ordering.{int_eq}
use Rattle.std.proofs.lemmas.Bool.Decides.{Decides-eqb}
use Rattle.std.proofs.lemmas.List.Elements.{All-nil, All-cons, All-head, All-tail}
use Rattle.smt_terms.specs.declared.ids.SortId.{SortId}
use Rattle.smt_terms.specs.declared.ids.SymId.{SymId}
use Rattle.smt_terms.specs.declared.op.Op.{Op}
use Rattle.smt_terms.specs.declared.op.Op.TheVariants.{Sym, Forall, Exists, ConstArray, Equal, Distinct, Ite, Select, Store}
use Rattle.smt_terms.specs.BitVectors.{nat2bv}
use Rattle.smt_terms.specs.Models.{number_value}
use Rattle.smt_terms.specs.Operators.{op_value}
use Rattle.smt_terms.specs.Rank.{Shape, fixed, several, equation, distinctness, choice, whole_number, bit_constant, concatenation, extraction, extension, rotation, bitwise, bitwise_pair, bits_comparison, selection, storing, filling, no_head, shape}
use Rattle.smt_terms.specs.Sorts.{Sort, bool, int, bit_vector, array, free_sort}
use Rattle.smt_terms.specs.Takes.{Takes}
use Rattle.smt_terms.specs.Values as plain
use Rattle.smt_terms.specs.Values.{whole, number, table, Pairs, Sizes, is_value, are_values}
use Rattle.smt_terms.proofs.BitLengths.{length-nat2bv}
use Rattle.smt_terms.proofs.Tests.{both_true, and_true}
use Rattle.smt_values.specs.Applied.{HasDivisor}
use Rattle.smt_values.specs.Operands.{operand}
use Rattle.smt_values.specs.Meaning.{meaning, scalar_value, scalar_sort, IsHeld, IsScalar}
use Rattle.smt_values.specs.declared.scalar.Scalar.{Scalar}
use Rattle.smt_values.specs.declared.scalar.Scalar.TheVariants.{Truth, Whole, Bits}
use Rattle.smt_values.specs.declared.value.Value.{Value}
use Rattle.smt_values.specs.declared.value.Value.TheVariants.{Scalar as OfScalar, Element, Array}
use Rattle.term_table.specs.Formulas.{Formulas}
use Rattle.models.specs.Division.{numbers_of}
use Rattle.models.specs.GraphRows.{meanings, AreValues}
use Rattle.models.specs.ModelView.{ModelLists, model_at}
use Rattle.models.specs.declared.model.Division.{Division}
use Rattle.models.specs.declared.model.Division.TheVariants.{Quotient, Remainder}
use Rattle.evaluation.specs.ScalarOperands.{scalars_in, scalar_result, division}

abbrev pub is_scalar : Sort → Bool
is_scalar bool = true
is_scalar int = true
is_scalar (bit_vector _) = true
is_scalar _ = false

abbrev pub takes_scalars : Shape → Bool
takes_scalars (fixed args _) = list_all is_scalar args
takes_scalars (several s) = is_scalar s
takes_scalars equation = false
takes_scalars distinctness = false
takes_scalars choice = false
takes_scalars selection = false
takes_scalars storing = false
takes_scalars (filling _) = false
takes_scalars no_head = false
takes_scalars _ = true

-- ---- operators

-- one of the operators that take other values too, or none of the theories
pub record NoOther (o : Op) : Type 0 where
  pub is_symbol : (f : SymId) → o ≡ Sym f → ⊥
  pub is_filled : (s : SortId) → o ≡ ConstArray s → ⊥
  pub is_forall : o ≡ Forall → ⊥
  pub is_exists : o ≡ Exists → ⊥
  pub is_equal : o ≡ Equal → ⊥
  pub is_distinct : o ≡ Distinct → ⊥
  pub is_ite : o ≡ Ite → ⊥
  pub is_select : o ≡ Select → ⊥
  pub is_store : o ≡ Store → ⊥

pub scalars-left : (o : Op) → NoOther o → takes_scalars (shape o) ≡ true
unfolding shape
scalars-left (Sym f) n = absurd (n.is_symbol f refl)
scalars-left (ConstArray s) n = absurd (n.is_filled s refl)
scalars-left Forall n = absurd (n.is_forall refl)
scalars-left Exists n = absurd (n.is_exists refl)
scalars-left Equal n = absurd (n.is_equal refl)
scalars-left Distinct n = absurd (n.is_distinct refl)
scalars-left Ite n = absurd (n.is_ite refl)
scalars-left Select n = absurd (n.is_select refl)
scalars-left Store n = absurd (n.is_store refl)
scalars-left _ n = refl

all-replicate : (s : Sort) (n : ℕ) → is_scalar s ≡ true → list_all is_scalar (replicate n s) ≡ true
all-replicate s zero h = refl
all-replicate s (suc n) h = and_true (is_scalar s) (list_all is_scalar (replicate n s)) h (all-replicate s n h)

pub scalar-sorts : (h : Shape) (ss : List Sort) (s : Sort) → takes_scalars h ≡ true → Takes h ss s → list_all is_scalar ss ≡ true
scalar-sorts (fixed args r) ss s h t = ap (list_all is_scalar) t.0 ∙ h
scalar-sorts (several r) ss s h t = ap (list_all is_scalar) t.1 ∙ all-replicate r (suc (suc t.0)) h
scalar-sorts (whole_number n) ss s h t = ap (list_all is_scalar) t.0
scalar-sorts (bit_constant w n) ss s h t = ap (list_all is_scalar) t.0
scalar-sorts concatenation ss s h t = ap (list_all is_scalar) t.2
scalar-sorts (extraction _ _) ss s h t = ap (list_all is_scalar) t.1
scalar-sorts (extension _) ss s h t = ap (list_all is_scalar) t.1
scalar-sorts (rotation _) ss s h t = ap (list_all is_scalar) t.1
scalar-sorts bitwise ss s h t = ap (list_all is_scalar) t.1
scalar-sorts bitwise_pair ss s h t = ap (list_all is_scalar) t.1
scalar-sorts (bits_comparison _) ss s h t = ap (list_all is_scalar) t.1
scalar-sorts _ ss s h t = absurd (true≢false (sym h))

-- ---- operands

sort-told : (s : Sort) (sizes : Sizes) (x : Scalar) → is_value s sizes (scalar_value x) ≡ true → scalar_sort x ≡ s
sort-told bool sizes (Truth b) h = refl
sort-told _ sizes (Truth b) h = absurd cc
sort-told int sizes (Whole n) h = refl
sort-told _ sizes (Whole n) h = absurd cc
sort-told (bit_vector w) sizes (Bits v n) h = ap bit_vector (sym (length-nat2bv v n) ∙ (Decides-eqb (length (nat2bv v n)) w).0 h)
sort-told _ sizes (Bits v n) h = absurd cc

no-element : (s : Sort) (sizes : Sizes) (i : ℕ) → is_scalar s ≡ true → is_value s sizes (meaning (Element i)) ≡ true → ⊥
no-element bool sizes i a h = cc
no-element int sizes i a h = cc
no-element (bit_vector w) sizes i a h = cc
no-element (array j e) sizes i a h = cc
no-element (free_sort n) sizes i a h = cc

pub record AreScalars (ss : List Sort) (vs : List Value) : Type 0 where
  pub sorts : map scalar_sort (scalars_in vs) ≡ ss
  pub values : map scalar_value (scalars_in vs) ≡ meanings vs
  pub held : All IsScalar (scalars_in vs)

no-array : (s : Sort) (sizes : Sizes) (d : plain.Value) (ps : Pairs) → is_scalar s ≡ true → is_value s sizes (table d ps) ≡ true → ⊥
no-array bool sizes d ps a h = cc
no-array int sizes d ps a h = cc
no-array (bit_vector w) sizes d ps a h = cc
no-array (array j e) sizes d ps a h = cc
no-array (free_sort n) sizes d ps a h = cc

one-more : (s : Sort) (ss : List Sort) (sizes : Sizes) (v : Value) (vs : List Value) → is_scalar s ≡ true → is_value s sizes (meaning v) ≡ true → IsHeld v → AreScalars ss vs → AreScalars (s ∷ ss) (v ∷ vs)
one-more s ss sizes (OfScalar x) vs scalar valid held rest = record {
  sorts = λ i. sort-told s sizes x valid i ∷ rest.sorts i;
  values = ap (λ ws. scalar_value x ∷ ws) rest.values;
  held = All-cons IsScalar x (scalars_in vs) held rest.held;
}
one-more s ss sizes (Element i) vs scalar valid held rest = absurd (no-element s sizes i scalar valid)
one-more s ss sizes (Array a) vs scalar valid held rest = absurd (no-array s sizes a.value.fallback a.value.pairs scalar valid)

pub are-scalars : (ss : List Sort) (sizes : Sizes) (vs : List Value) → list_all is_scalar ss ≡ true → AreValues ss sizes vs → AreScalars ss vs
are-scalars [] sizes [] all are = record { sorts = refl; values = refl; held = All-nil IsScalar }
are-scalars [] sizes (v ∷ vs) all are = let h = are.valid in absurd cc
are-scalars (s ∷ ss) sizes [] all are = let h = are.valid in absurd cc
are-scalars (s ∷ ss) sizes (v ∷ vs) all are =
    let valid = both_true (is_value s sizes (meaning v)) (are_values ss sizes (meanings vs)) are.valid in
    let scalar = both_true (is_scalar s) (list_all is_scalar ss) all in
    one-more s ss sizes v vs scalar.0 valid.0 (All-head IsHeld v vs are.held)
    (are-scalars ss sizes vs scalar.1 (record { held = All-tail IsHeld v vs are.held; valid = valid.1 }))

-- ---- division by zero

pub has-divisor : (part : Division) (o : Op) (args : List Scalar) → o ≡ division part → number (operand args 1) ≢ pos 0 → HasDivisor o args
has-divisor part o args same some = subst (λ p. HasDivisor p args) (sym same) (by part)
  where
    by : (q : Division) → HasDivisor (division q) args
    by Quotient = some
    by Remainder = some

divided : (t : Formulas) (m : ModelLists) (part : Division) (args : List Scalar) → number (operand args 1) ≡ pos 0 → scalar_result (model_at t m) (division part) args ≡ whole (number_value (numbers_of part m) (number (operand args 0)))
unfolding op_value
divided t m Quotient args none = ap (λ d. whole (cond (int_eq d (pos 0)) (number_value m.div_by_zero (number (operand args 0))) (int_div_euclid (number (operand args 0)) d))) none
divided t m Remainder args none = ap (λ d. whole (cond (int_eq d (pos 0)) (number_value m.mod_by_zero (number (operand args 0))) (int_rem_euclid (number (operand args 0)) d))) none

pub by-zero : (t : Formulas) (m : ModelLists) (part : Division) (o : Op) (args : List Scalar) (n : ℤ) → o ≡ division part → number (operand args 1) ≡ pos 0 → n ≡ number_value (numbers_of part m) (number (operand args 0)) → scalar_result (model_at t m) o args ≡ whole n
by-zero t m part o args n same none is = ap (λ p. scalar_result (model_at t m) p args) same ∙ divided t m part args none ∙ ap whole (sym is)
