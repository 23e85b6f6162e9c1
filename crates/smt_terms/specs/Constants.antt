-- Constants of Bool, Int and bit vectors: SMT-LIB 2.6, theories Core, Ints and FixedSizeBitVectors.
use Rattle.std.specs.Prelude.{ℕ, Bool, not, ◌&&◌, if◌then◌else◌, length, ℤ, Option, Some, None, is_some}
use Rattle.smt_terms.specs.declared.op.Op.{Op}
use Rattle.smt_terms.specs.declared.op.Op.TheVariants.{Truth, Whole, Bits}
use Rattle.smt_terms.specs.Term.{op, Term, apply, none}
use Rattle.smt_terms.specs.Connectives.{truth_term}
use Rattle.smt_terms.specs.Equal.{term_eq}
use Rattle.smt_terms.specs.BitVectors.{bv2nat, nat2bv}
use Rattle.smt_terms.specs.Values.{Value, truth, whole, bits, element, table}
use Rattle.smt_terms.specs.Val.{within_range}

abbrev pub whole_term : ℤ → Term
whole_term n = apply (op (Whole n)) none

-- a width and a number
abbrev pub bits_term : ℕ → ℕ → Term
bits_term width n = apply (op (Bits width n)) none

-- ---- the value of a constant

unfoldable pub literal_value : Op → Option Value
literal_value (Truth b) = Some (truth b)
literal_value (Whole n) = Some (whole n)
literal_value (Bits width n) = Some (bits (nat2bv width n))
literal_value _ = None

abbrev pub constant_value : Term → Option Value
constant_value (apply (op o) none) = literal_value o
constant_value _ = None

abbrev pub is_constant : Term → Bool
is_constant t = is_some (constant_value t)

-- both are constants, and not the same one
abbrev pub are_different_constants : Term → Term → Bool
are_different_constants s t = is_constant s && (is_constant t && not (term_eq s t))

-- ---- the constant of a value: none for a whole number outside the range, an element or an array

abbrev pub constant_term : Value → Option Term
constant_term (truth b) = Some (truth_term b)
constant_term (whole n) = if within_range n then Some (whole_term n) else None
constant_term (bits bs) = Some (bits_term (length bs) (bv2nat bs))
constant_term (element i) = None
constant_term (table d ps) = None
