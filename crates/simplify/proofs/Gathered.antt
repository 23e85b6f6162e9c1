-- The number that the constants among the operands of `+` and `*` make.
use Rattle.std.proofs.Common.{◌≡◌, ℕ, zero, suc, ◌^◌, ◌<◌, ◌≤◌, true, false, ℤ, pos, ◌*ℤ◌, List, [], ◌∷◌, map, length, replicate, All, Option, Some, None, is_ok, refl, ap, sym, ◌∙◌, subst, arith}
use Rattle.std.specs.Prelude.{is_some, unsigned_abs, IsFalse}
use Rattle.std.proofs.Math.IntN.{+ℤ_idl, *ℤ_comm, *ℤ-one, one}
use Rattle.std.proofs.lemmas.Bool.{ltb-false}
use Rattle.std.proofs.lemmas.Int.{to_z-of_z, fits_signed_from_abs}
use Rattle.std.proofs.lemmas.List.{length-map}
use Rattle.std.proofs.lemmas.List.Elements.{All-head, All-tail}
use mir.Syntax.{w128}
use mir.Val.{to_z, of_z}
use Rattle.smt_terms.specs.declared.op.Op.{Op}
use Rattle.smt_terms.specs.Sorts.{Sort, bool, int, bit_vector}
use Rattle.smt_terms.specs.Term.{op, Term}
use Rattle.smt_terms.specs.BitVectors.{nat2bv}
use Rattle.smt_terms.specs.Constants.{literal_value, constant_value, is_constant}
use Rattle.smt_terms.specs.Equal.{op_eq}
use Rattle.smt_terms.specs.Operators.{Background, op_value}
use Rattle.smt_terms.specs.Rank.{shape, rank, sort_of, width, most_bits, is_minus}
use Rattle.smt_terms.specs.Takes.{Takes}
use Rattle.smt_terms.specs.Val.{value_in_range}
use Rattle.smt_terms.specs.Values.{Value, truth, whole, bits, number}
use Rattle.smt_terms.proofs.ConstantTerms.{IsConstant, a_truth, a_whole, a_vector, constants, truth_sort, vector_sort}
use Rattle.smt_terms.proofs.Ranked.{takes-rank}
use Rattle.smt_values.specs.Applied.{TakesOperands, HasDivisor, HasValue, IsBeyond, IsWithin}
use Rattle.smt_values.specs.Meaning.{scalar_value, scalar_sort, IsScalar}
use Rattle.smt_values.specs.declared.scalar.Scalar.{Scalar}
use Rattle.smt_values.specs.declared.scalar.Scalar.TheVariants.{Truth as TruthOf, Whole as WholeOf, Bits as BitsOf}
use Rattle.term_table.specs.Formulas.{kind, theory as theory_of}
use Rattle.simplify.specs.Folding.{any_background}
use Rattle.simplify.specs.Numbers.{number_or}
use Rattle.simplify.specs.Gathering.{Gathers, sums, products, combined, combined_values, gathered_number, value_first, values_in, IsWhole}

one-right : (a : ℤ) → a *ℤ pos 1 ≡ a
unfolding one
one-right a = *ℤ-one a

one-left : (a : ℤ) → pos 1 *ℤ a ≡ a
one-left a = *ℤ_comm (pos 1) a ∙ one-right a

-- ---- what both operators have

pub record Gathering (o : Op) (n : ℤ) : Type 0 where
  pub nothing : combined_values o [] ≡ n
  pub more : (v : Value) (vs : List Value) → combined_values o (v ∷ vs) ≡ combined o (number v) (combined_values o vs)
  pub left : (a : ℤ) → combined o n a ≡ a
  pub value : (c : Background) (ss : List Sort) (vs : List Value) → op_value c o ss vs ≡ whole (combined_values o vs)
  pub takes : (k : ℕ) → Takes (shape o) (int ∷ int ∷ replicate k int) int
  pub parts : (ss : List Sort) (s : Sort) → Takes (shape o) ss s → (k : ℕ) × (ss ≡ int ∷ int ∷ replicate k int)
  pub divisor : (args : List Scalar) → HasDivisor o args
  pub small : unsigned_abs n < 2 ^ 127
  pub minus : is_minus o ≡ false
  pub theory : kind o ≡ theory_of o

pub gathering : (o : Op) (n : ℤ) → Gathers o n → Gathering o n
unfolding shape op_value op_eq is_minus kind
gathering o n sums = record {
  nothing = refl;
  more = λ v vs. refl;
  left = +ℤ_idl;
  value = λ c ss vs. refl;
  takes = λ k. (k, refl, refl);
  parts = λ ss s t. (t.0, t.1);
  divisor = λ args. tt;
  small = omega arith;
  minus = refl;
  theory = refl;
}
gathering o n products = record {
  nothing = refl;
  more = λ v vs. refl;
  left = one-left;
  value = λ c ss vs. refl;
  takes = λ k. (k, refl, refl);
  parts = λ ss s t. (t.0, t.1);
  divisor = λ args. tt;
  small = omega arith;
  minus = refl;
  theory = refl;
}

-- ---- constants among terms of sort Int

abbrev pub AreInt : List Term → Type 0
AreInt ts = All (λ t. sort_of t ≡ Some int) ts

is_some_value : (t : Term) (v : Value) → constant_value t ≡ Some v → is_constant t ≡ true
is_some_value t v h = ap is_some h

int_constant : (n : ℤ) (t : Term) (v : Value) → sort_of t ≡ Some int → constant_value t ≡ Some v → number_or n (Some v) ≡ number v
unfolding literal_value
int_constant n t v has h = by t (constants t (is_some_value t v h)) has h
  where
    by : (t : Term) → IsConstant t → sort_of t ≡ Some int → constant_value t ≡ Some v → number_or n (Some v) ≡ number v
    by t (a_whole k) has h = let value : whole k ≡ v = cc in subst (λ u. number_or n (Some u) ≡ number u) value refl
    by t (a_truth b) has h = let apart : int ≡ bool = truth_sort b int has in absurd cc
    by t (a_vector w k) has h = let apart : int ≡ bit_vector w = (vector_sort w k int has).1 in absurd cc

module _ (o : Op) (n : ℤ) (g : Gathering o n) where
  pub reads_values : (ts : List Term) → AreInt ts → combined_values o (values_in ts) ≡ gathered_number o n ts
  reads_values [] all = g.nothing
  reads_values (t ∷ ts) all = by (reads_values ts (All-tail (λ u. sort_of u ≡ Some int) t ts all)) (constant_value t) refl
    where
      by : combined_values o (values_in ts) ≡ gathered_number o n ts → (q : Option Value) → constant_value t ≡ q → combined_values o (value_first q (values_in ts)) ≡ combined o (number_or n q) (gathered_number o n ts)
      by rest None h = rest ∙ sym (g.left (gathered_number o n ts))
      by rest (Some v) h =
          g.more v (values_in ts)
          ∙ (λ i. combined o (sym (int_constant n t v (All-head (λ u. sort_of u ≡ Some int) t ts all) h) i) (rest i))

  -- ---- whole numbers as scalars

  int_sorts : (ss : List Scalar) → All IsWhole ss → map scalar_sort ss ≡ replicate (length ss) int
  int_sorts [] all = refl
  int_sorts (s ∷ ss) all = (λ i. (All-head IsWhole s ss all).sort i ∷ int_sorts ss (All-tail IsWhole s ss all) i)

  pub several : (k : ℕ) → 2 ≤ k → Takes (shape o) (replicate k int) int
  several zero le = absurd (omega arith)
  several (suc zero) le = absurd (omega arith)
  several (suc (suc k)) le = g.takes k

  pub takes_scalars : (ss : List Scalar) → All IsWhole ss → 2 ≤ length ss → TakesOperands o ss
  takes_scalars ss all le =
      let narrow : width int ≤ most_bits = omega arith in
      ap is_ok (ap (rank (op o)) (int_sorts ss all) ∙ takes-rank (op o) (replicate (length ss) int) int (several (length ss) le) narrow)

  pub several_scalars : (ss : List Scalar) (ts : List Term) → map scalar_value ss ≡ whole n ∷ whole n ∷ values_in ts → 2 ≤ length ss
  several_scalars ss ts values =
      let number : length (map scalar_value ss) ≡ suc (suc (length (values_in ts))) = ap length values in
      let same = length-map ss scalar_value in
      omega (arith, number, same)

  pub whole_value : (ss : List Scalar) (ts : List Term) → AreInt ts → map scalar_value ss ≡ whole n ∷ whole n ∷ values_in ts → combined_values o (map scalar_value ss) ≡ gathered_number o n ts
  whole_value ss ts all values =
      ap (combined_values o) values
      ∙ g.more (whole n) (whole n ∷ values_in ts)
      ∙ g.left (combined_values o (whole n ∷ values_in ts))
      ∙ g.more (whole n) (values_in ts)
      ∙ g.left (combined_values o (values_in ts))
      ∙ reads_values ts all

  pub value_is : (ss : List Scalar) (v : Value) → HasValue o ss v → v ≡ whole (combined_values o (map scalar_value ss))
  value_is ss v has = sym (has any_background) ∙ g.value any_background (map scalar_sort ss) (map scalar_value ss)

  pub whole_found : (ss : List Scalar) (s : Scalar) → HasValue o ss (scalar_value s) → IsScalar s → IsWhole s
  whole_found ss (TruthOf b) has fits = let apart : truth b ≡ whole (combined_values o (map scalar_value ss)) = value_is ss (truth b) has in absurd cc
  whole_found ss (WholeOf k) has fits = record { scalar = fits; sort = refl }
  whole_found ss (BitsOf w k) has fits = let apart : bits (nat2bv w k) ≡ whole (combined_values o (map scalar_value ss)) = value_is ss (bits (nat2bv w k)) has in absurd cc

  pub number_found : (ss : List Scalar) (s : Scalar) (k : ℤ) → HasValue o ss (scalar_value s) → IsScalar s → s ≡ WholeOf k → IsWithin (Some (to_z w128 (of_z w128 k))) (combined_values o (map scalar_value ss))
  number_found ss s k has fits is =
      let small : unsigned_abs k < 2 ^ 127 = subst IsScalar is fits in
      let same : k ≡ combined_values o (map scalar_value ss) = ap number (sym (ap scalar_value is) ∙ value_is ss (scalar_value s) has) in
      (to_z-of_z w128 k (fits_signed_from_abs w128 k small) ∙ same, subst (λ z. unsigned_abs z < 2 ^ 127) same small)

  pub number_beyond : (ss : List Scalar) → IsBeyond o ss → IsWithin None (combined_values o (map scalar_value ss))
  number_beyond ss beyond =
      let out = subst (λ v. IsFalse (value_in_range v)) (g.value any_background (map scalar_sort ss) (map scalar_value ss)) (beyond any_background) in
      ltb-false (unsigned_abs (combined_values o (map scalar_value ss))) (2 ^ 127) out
