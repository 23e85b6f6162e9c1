-- The values of the definitions that scalars and values of a program stand for, and what holds of each that it holds.
use Rattle.std.specs.Prelude.{◌≤◌, ◌<◌, ◌^◌, unsigned_abs, List, [], ◌∷◌, All}
use Rattle.smt_terms.specs.Sorts.{Sort, bool, int, bit_vector}
use Rattle.smt_terms.specs.Values as plain
use Rattle.smt_terms.specs.Values.{Pairs, no_pairs, pair}
use Rattle.smt_terms.specs.BitVectors.{nat2bv}
use Rattle.smt_values.specs.Tables.{as_value}
use Rattle.smt_values.specs.declared.scalar.Scalar.{Scalar}
use Rattle.smt_values.specs.declared.scalar.Scalar.TheVariants.{Truth, Whole, Bits}
use Rattle.smt_values.specs.declared.value.Value.{Value}
use Rattle.smt_values.specs.declared.value.Value.TheVariants.{Scalar as OfScalar, Element, Array}
use Rattle.smt_values.specs.declared.value.Pair.{Pair}

abbrev pub scalar_value : Scalar → plain.Value
scalar_value (Truth b) = plain.truth b
scalar_value (Whole n) = plain.whole n
scalar_value (Bits width n) = plain.bits (nat2bv width n)

abbrev pub scalar_sort : Scalar → Sort
scalar_sort (Truth b) = bool
scalar_sort (Whole n) = int
scalar_sort (Bits width n) = bit_vector width

-- a scalar within the range of whole numbers, widths and bits
abbrev pub IsScalar : Scalar → Type 0
IsScalar (Truth b) = Unit {0}
IsScalar (Whole n) = unsigned_abs n < 2 ^ 127
IsScalar (Bits width n) = (1 ≤ width) × (width ≤ 128) × (n < 2 ^ width)

abbrev pub meaning : Value → plain.Value
meaning (OfScalar s) = scalar_value s
meaning (Element i) = plain.element i
meaning (Array a) = as_value a.value

-- a value whose scalars are in range: an array holds no other ones
abbrev pub IsHeld : Value → Type 0
IsHeld (OfScalar s) = IsScalar s
IsHeld (Element i) = Unit {0}
IsHeld (Array a) = Unit {0}

abbrev pub pairs_of : List Pair → Pairs
pairs_of [] = no_pairs
pairs_of (p ∷ ps) = pair (meaning p.key) (meaning p.value) (pairs_of ps)

abbrev pub AreHeld : List Pair → Type 0
AreHeld ps = All (λ p. IsHeld p.key × IsHeld p.value) ps
