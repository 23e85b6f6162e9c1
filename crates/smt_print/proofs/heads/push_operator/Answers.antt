use Rattle.std.proofs.Common.{sym}
use Rattle.smt_values.specs.declared.scalar.Scalar.TheVariants.{Whole, Bits}
use Rattle.smt_print.proofs.HeadTexts.{whole-scalar}
use Rattle.smt_print.proofs.heads.push_operator.Goals as goal

pub push_scalar-requires-in-Whole : goal.push_scalar-requires-in-Whole
push_scalar-requires-in-Whole c = whole-scalar c.in-Whole.n (c.requires.scalar (Whole c.in-Whole.n) (sym c.in-Whole.is))

pub push_scalar-requires-in-Bits : goal.push_scalar-requires-in-Bits
push_scalar-requires-in-Bits c = c.requires.scalar (Bits c.in-Bits.width c.in-Bits.bits) (sym c.in-Bits.is)
