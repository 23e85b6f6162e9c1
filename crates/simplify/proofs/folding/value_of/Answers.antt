use Rattle.std.proofs.Common.{sym, ◌∙◌}
use Rattle.simplify.proofs.FoldedConstants.{has-divisor}
use Rattle.simplify.proofs.folding.value_of.Goals as goal

pub apply_scalar-requires-clause-divisor : goal.apply_scalar-requires-clause-divisor
apply_scalar-requires-clause-divisor c = has-divisor c.args.op c.args.args.now (sym c.divides_by_zero.ensures ∙ c.if-divides_by_zero.false)
