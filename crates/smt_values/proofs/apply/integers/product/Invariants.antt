use Rattle.std.proofs.Common.{◌≡◌, drop, map}
use Rattle.std.specs.Prelude.{◌*ℤ◌}
use Rattle.smt_terms.specs.Operators.{product_of}
use Rattle.smt_values.specs.Meaning.{scalar_value}
use Rattle.smt_values.proofs.apply.integers.product.Given as goal

abbrev pub invariant-loop-arg : goal.invariant-loop-arg
invariant-loop-arg l = l.product *ℤ product_of (map scalar_value (drop l.arg-index l.args)) ≡ product_of (map scalar_value l.args)
