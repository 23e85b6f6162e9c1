-- The nodes of constants.
use Rattle.std.proofs.Common.{◌≡◌, ◌^◌, ◌<◌, ◌≤◌, cond, [], Some, None, Ok, is_ok, refl, ap, sym, ◌∙◌, arith}
use Rattle.std.specs.Prelude.{nat_abs}
use Rattle.smt_terms.specs.declared.op.Op.TheVariants as op_named
use Rattle.smt_terms.specs.Sorts.{bool, int, bit_vector}
use Rattle.smt_terms.specs.Term.{op, apply, none}
use Rattle.smt_terms.specs.Constants.{whole_term, bits_term, constant_term}
use Rattle.smt_terms.specs.Rank.{shape, width, most_bits, rank, sort_of, is_minus_of}
use Rattle.smt_terms.proofs.BitLengths.{length-nat2bv}
use Rattle.smt_terms.proofs.ConstantTerms.{bv2nat-nat2bv}
use Rattle.smt_terms.proofs.Ranked.{takes-rank, lt_true}
use Rattle.smt_terms.proofs.Sorted.{sort_of-apply}
use Rattle.smt_values.specs.declared.scalar.Scalar.{Scalar}
use Rattle.smt_values.specs.declared.scalar.Scalar.TheVariants.{Truth, Whole, Bits}
use Rattle.smt_values.specs.Meaning.{scalar_value, scalar_sort, IsScalar}
use Rattle.term_table.specs.Formulas.{Formulas, kind, term_over, Makes, AreNodes}
use Rattle.normal_forms.specs.Literals.{literal_of}

pub no-nodes : (t : Formulas) → AreNodes t []
no-nodes t i d lt = absurd (omega arith)

pub literal-ranked : (k : Scalar) → IsScalar k → rank (op (literal_of k)) [] ≡ Ok (scalar_sort k)
unfolding shape
literal-ranked (Truth b) fine = let narrow : width bool ≤ most_bits = omega arith in takes-rank (op (op_named.Truth b)) [] bool (refl, refl) narrow
literal-ranked (Whole n) fine = let narrow : width int ≤ most_bits = omega arith in takes-rank (op (op_named.Whole n)) [] int (refl, fine, refl) narrow
literal-ranked (Bits w n) fine = let some : 1 ≤ w = fine.0 in let more : 0 < w = omega arith in takes-rank (op (op_named.Bits w n)) [] (bit_vector w) (refl, more, fine.2, refl) fine.1

pub literal-makes : (t : Formulas) (k : Scalar) → IsScalar k → Makes t (literal_of k) []
unfolding kind is_minus_of
literal-makes t (Truth b) fine = record { kids = no-nodes t; numbers = tt; ranked = ap is_ok (literal-ranked (Truth b) fine); minus = refl }
literal-makes t (Whole n) fine = record { kids = no-nodes t; numbers = tt; ranked = ap is_ok (literal-ranked (Whole n) fine); minus = refl }
literal-makes t (Bits w n) fine = record { kids = no-nodes t; numbers = tt; ranked = ap is_ok (literal-ranked (Bits w n) fine); minus = refl }

pub literal-term : (t : Formulas) (k : Scalar) → term_over t (literal_of k) [] ≡ apply (op (literal_of k)) none
unfolding kind
literal-term t (Truth b) = refl
literal-term t (Whole n) = refl
literal-term t (Bits w n) = refl

pub literal-sort : (t : Formulas) (k : Scalar) → IsScalar k → sort_of (term_over t (literal_of k) []) ≡ Some (scalar_sort k)
literal-sort t k fine = ap sort_of (literal-term t k) ∙ sort_of-apply (op (literal_of k)) none [] (scalar_sort k) refl (literal-ranked k fine)

pub literal-constant : (t : Formulas) (k : Scalar) → IsScalar k → constant_term (scalar_value k) ≡ Some (term_over t (literal_of k) [])
literal-constant t k fine = sym (ap (λ u. Some u) (literal-term t k) ∙ by k fine)
  where
    by : (k : Scalar) → IsScalar k → Some (apply (op (literal_of k)) none) ≡ constant_term (scalar_value k)
    by (Truth b) fine = refl
    by (Whole n) fine = sym (ap (λ b. cond b (Some (whole_term n)) None) (lt_true (nat_abs n) (2 ^ 127) fine))
    by (Bits w n) fine = sym (λ i. Some (bits_term (length-nat2bv w n i) (bv2nat-nat2bv w n fine.2 i)))
