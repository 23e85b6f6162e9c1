-- What `+` and `*` make of the constants among their operands.
use Rattle.std.specs.Prelude.{◌≡◌, Bool, not, ℤ, pos, ◌+ℤ◌, ◌*ℤ◌, if◌then◌else◌, List, [], ◌∷◌, Option, Some, None}
use Rattle.smt_terms.specs.declared.op.Op.{Op}
use Rattle.smt_terms.specs.declared.op.Op.TheVariants.{Add, Mul}
use Rattle.smt_terms.specs.Constants.{constant_value, is_constant}
use Rattle.smt_terms.specs.Equal.{op_eq}
use Rattle.smt_terms.specs.Operators.{sum_of, product_of}
use Rattle.smt_terms.specs.Sorts.{int}
use Rattle.smt_terms.specs.Term.{Term}
use Rattle.smt_terms.specs.Values.{Value}
use Rattle.smt_values.specs.Meaning.{scalar_sort, IsScalar}
use Rattle.smt_values.specs.declared.scalar.Scalar.{Scalar}
use Rattle.simplify.specs.Numbers.{together}

-- sums from 0, and products from 1
pub data Gathers : Op → ℤ → Type 0 where
  sums : Gathers Add (pos 0)
  products : Gathers Mul (pos 1)

abbrev pub combined : Op → ℤ → ℤ → ℤ
combined o a b = if op_eq o Add then a +ℤ b else a *ℤ b

-- the sum, or the product, of values
abbrev pub combined_values : Op → List Value → ℤ
combined_values o vs = if op_eq o Add then sum_of vs else product_of vs

-- the constants among these operands taken together
abbrev pub gathered_number : Op → ℤ → List Term → ℤ
gathered_number o neutral ts = together (combined o) neutral ts

abbrev pub is_other : Term → Bool
is_other t = not (is_constant t)

abbrev pub value_first : Option Value → List Value → List Value
value_first (Some v) vs = v ∷ vs
value_first None vs = vs

-- the values of the constants among these operands
abbrev pub values_in : List Term → List Value
values_in [] = []
values_in (t ∷ ts) = value_first (constant_value t) (values_in ts)

-- a whole number in the range
pub record IsWhole (s : Scalar) : Type 0 where
  pub scalar : IsScalar s
  pub sort : scalar_sort s ≡ int
