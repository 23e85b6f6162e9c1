-- Operands that are scalars, and operators that take scalars alone.
use Rattle.std.specs.Prelude.{List, [], ◌∷◌, map}
use Rattle.smt_terms.specs.declared.op.Op.{Op}
use Rattle.smt_terms.specs.declared.op.Op.TheVariants.{Div, Mod}
use Rattle.smt_terms.specs.Models.{Model, background}
use Rattle.smt_terms.specs.Operators.{op_value}
use Rattle.smt_terms.specs.Values as plain
use Rattle.smt_values.specs.Meaning.{scalar_value, scalar_sort}
use Rattle.smt_values.specs.declared.scalar.Scalar.{Scalar}
use Rattle.smt_values.specs.declared.value.Value.{Value}
use Rattle.smt_values.specs.declared.value.Value.TheVariants.{Scalar as OfScalar}
use Rattle.models.specs.declared.model.Division.{Division}
use Rattle.models.specs.declared.model.Division.TheVariants.{Quotient, Remainder}

-- the scalars among values
abbrev pub scalars_in : List Value → List Scalar
scalars_in [] = []
scalars_in (OfScalar s ∷ vs) = s ∷ scalars_in vs
scalars_in (_ ∷ vs) = scalars_in vs

-- the value of an operator at scalars
abbrev pub scalar_result : Model → Op → List Scalar → plain.Value
scalar_result m o args = op_value (background m) o (map scalar_sort args) (map scalar_value args)

-- the operator of a part of division
abbrev pub division : Division → Op
division Quotient = Div
division Remainder = Mod
