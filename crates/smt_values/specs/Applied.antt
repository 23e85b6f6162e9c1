-- An operator at scalars: what it asks of them, and what it gives.
use Rattle.std.specs.Prelude.{◌≡◌, ◌≢◌, ◌≤◌, ◌<◌, ◌^◌, List, map, ℤ, pos, unsigned_abs, IsOk, IsFalse, Option, Some, None}
use Rattle.smt_terms.specs.declared.op.Op.{Op}
use Rattle.smt_terms.specs.declared.op.Op.TheVariants.{Div, Mod}
use Rattle.smt_terms.specs.Term.{op}
use Rattle.smt_terms.specs.Rank.{rank}
use Rattle.smt_terms.specs.Values.{Value, number}
use Rattle.smt_terms.specs.Operators.{Background, op_value, second_value}
use Rattle.smt_terms.specs.Val.{value_in_range}
use Rattle.smt_values.specs.Meaning.{scalar_value, scalar_sort}
use Rattle.smt_values.specs.declared.scalar.Scalar.{Scalar}

-- the operator has a rank over the scalars' sorts
abbrev pub TakesOperands : Op → List Scalar → Type 0
TakesOperands o args = IsOk (rank (op o) (map scalar_sort args))

-- `div` and `mod` have a divisor other than zero
abbrev pub HasDivisor : Op → List Scalar → Type 0
HasDivisor Div args = number (second_value (map scalar_value args)) ≢ pos 0
HasDivisor Mod args = number (second_value (map scalar_value args)) ≢ pos 0
HasDivisor _ args = Unit {0}

-- the operator's value, whatever a model says of free sorts and of division by zero
abbrev pub HasValue : Op → List Scalar → Value → Type 0
HasValue o args v = (c : Background) → op_value c o (map scalar_sort args) (map scalar_value args) ≡ v

-- its value is a whole number outside the range
abbrev pub IsBeyond : Op → List Scalar → Type 0
IsBeyond o args = (c : Background) → IsFalse (value_in_range (op_value c o (map scalar_sort args) (map scalar_value args)))

-- a whole number where it lies in the range, and none exactly where it doesn't
abbrev pub IsWithin : Option ℤ → ℤ → Type 0
IsWithin (Some n) z = (n ≡ z) × (unsigned_abs z < 2 ^ 127)
IsWithin None z = 2 ^ 127 ≤ unsigned_abs z
