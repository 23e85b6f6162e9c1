use Rattle.std.proofs.Common.{◌≡◌, ◌++◌, drop}
use Rattle.evaluation.specs.ScalarOperands.{scalars_in}
use Rattle.evaluation.proofs.operators.scalars.scalars_of.Given as goal

abbrev pub invariant-loop-arg : goal.invariant-loop-arg
invariant-loop-arg l = scalars_in l.args ≡ l.scalars.items ++ scalars_in (drop l.arg-index l.args)
