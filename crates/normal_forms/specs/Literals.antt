-- The operators of constants.
use Rattle.smt_terms.specs.declared.op.Op.{Op}
use Rattle.smt_terms.specs.declared.op.Op.TheVariants as op
use Rattle.smt_values.specs.declared.scalar.Scalar.{Scalar}
use Rattle.smt_values.specs.declared.scalar.Scalar.TheVariants.{Truth, Whole, Bits}

abbrev pub literal_of : Scalar → Op
literal_of (Truth b) = op.Truth b
literal_of (Whole n) = op.Whole n
literal_of (Bits width n) = op.Bits width n
