use Rattle.std.proofs.Common.{◌≡◌, ◌+◌, ◌*◌, ◌^◌, ◌≤◌, drop, map}
use Rattle.std.specs.Prelude.{pos, ◌+ℤ◌}
use Rattle.smt_terms.specs.Operators.{sum_of}
use Rattle.smt_values.specs.Meaning.{scalar_value}
use Rattle.smt_values.proofs.apply.integers.sum.Given as goal

abbrev pub invariant-loop-arg : goal.invariant-loop-arg
invariant-loop-arg l = record {
  counts : l.above + l.below ≤ l.arg-index;
  sum : (l.low +ℤ pos (l.above * 2 ^ 128)) +ℤ sum_of (map scalar_value (drop l.arg-index l.args)) ≡ sum_of (map scalar_value l.args) +ℤ pos (l.below * 2 ^ 128);
}
