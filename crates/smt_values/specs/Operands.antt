-- Operands by their places.
use Rattle.std.specs.Prelude.{◌≡◌, ℕ, zero, suc, Bool, List, map, pos, Some, slice_get}
use Rattle.std.specs.Ordering.{int_eq}
use Rattle.smt_terms.specs.Values.{Value, number}
use Rattle.smt_terms.specs.Operators.{first_value, later_values}
use Rattle.smt_values.specs.Meaning.{scalar_value}
use Rattle.smt_values.specs.declared.scalar.Scalar.{Scalar}
use Rattle.smt_values.specs.declared.scalar.Scalar.TheVariants.{Bits}

abbrev pub values_from : ℕ → List Value → List Value
values_from zero vs = vs
values_from (suc i) vs = values_from i (later_values vs)

-- the value of the operand at a place; one that isn't there reads as false
abbrev pub operand : List Scalar → ℕ → Value
operand args i = first_value (values_from i (map scalar_value args))

-- whether an operand's number is zero
abbrev pub is_zero : Scalar → Bool
is_zero a = int_eq (number (scalar_value a)) (pos 0)

-- the operand at a place is a bit vector
abbrev pub IsWordAt : List Scalar → ℕ → Type 0
IsWordAt args i = (w : ℕ) × (n : ℕ) × (slice_get args i ≡ Some (Bits w n))

-- the first two operands are bit vectors of one width
abbrev pub IsPair : List Scalar → Type 0
IsPair args = (w : ℕ) × (m : ℕ) × (n : ℕ) × (slice_get args 0 ≡ Some (Bits w m)) × (slice_get args 1 ≡ Some (Bits w n))
