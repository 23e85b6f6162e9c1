-- Operands by their places.
use Rattle.std.proofs.Common.{◌≡◌, ℕ, zero, suc, ◌<◌, ◌≤◌, List, [], ◌∷◌, length, get_or, false, refl, ap, sym, arith}
use Rattle.smt_terms.specs.Values.{truth}
use Rattle.smt_terms.specs.Operators.{first_value}
use Rattle.smt_values.specs.Meaning.{scalar_value}
use Rattle.smt_values.specs.Operands.{operand, values_from}
use Rattle.smt_values.specs.declared.scalar.Scalar.{Scalar}

pub operand_at : (args : List Scalar) (i : ℕ) (x : Scalar) → i < length args → ((d : Scalar) → x ≡ get_or args i d) → operand args i ≡ scalar_value x
operand_at [] i x lt e = absurd (omega arith)
operand_at (a ∷ bs) zero x lt e = ap scalar_value (sym (e a))
operand_at (a ∷ bs) (suc i) x lt e = let lt' : i < length bs = omega arith in operand_at bs i x lt' e

none_from : (i : ℕ) → first_value (values_from i []) ≡ truth false
none_from zero = refl
none_from (suc i) = none_from i

pub operand_past : (args : List Scalar) (i : ℕ) → length args ≤ i → operand args i ≡ truth false
operand_past [] i le = none_from i
operand_past (a ∷ bs) zero le = absurd (omega arith)
operand_past (a ∷ bs) (suc i) le = let le' : length bs ≤ i = omega arith in operand_past bs i le'
