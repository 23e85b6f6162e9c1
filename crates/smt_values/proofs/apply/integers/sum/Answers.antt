use Rattle.std.proofs.Common.{rules, arith, ◌+◌, ◌*◌, ◌^◌, ap, ◌∙◌, drop, map}
use Rattle.std.specs.Prelude.{pos, ◌+ℤ◌}
use Rattle.std.specs.Int.{w128, cast_signed}
use Rattle.std.proofs.lemmas.Int.{to_z-of_z}
use mir.Val.{SFits}
use Rattle.smt_terms.specs.Operators.{sum_of}
use Rattle.smt_values.specs.Meaning.{scalar_value}
use Rattle.smt_values.proofs.IntegerLaws.{number_at, sum_of-drop, sum_step}
use Rattle.smt_values.proofs.apply.integers.sum.Goals as goal

pub loop-arg-preserved : goal.loop-arg-preserved
loop-arg-preserved c = record {
  counts = omega arith;
  sum =
      let low : SFits w128 c.carrying_add-sum.result.0 = search rules in
      let number : SFits w128 c.whole.result = search rules in
      let rest = sum_of (map scalar_value (drop (c.loop-arg.arg-index + 1) c.args.args.now)) in
      let total = sum_of (map scalar_value c.args.args.now) in
      let step = c.carrying_add-sum.ensures.sum ∙ ap (λ z. (cast_signed w128 c.loop-arg.low-bits +ℤ z) +ℤ pos (c.carrying_add-sum.result.2 * 2 ^ 128)) (to_z-of_z w128 c.whole.result number ∙ c.whole.ensures.number) in
      ap (λ z. (z +ℤ pos ((c.loop-arg.above + c.carrying_add-sum.result.1) * 2 ^ 128)) +ℤ rest) (to_z-of_z w128 c.carrying_add-sum.result.0 low)
      ∙ sum_step (cast_signed w128 c.loop-arg.low-bits) (number_at c.args.args.now c.loop-arg.arg-index) c.carrying_add-sum.result.0 (sum_of (map scalar_value (drop c.loop-arg.arg-index c.args.args.now))) rest total
      c.carrying_add-sum.result.1 c.carrying_add-sum.result.2 c.loop-arg.above c.loop-arg.below step (sum_of-drop c.args.args.now c.loop-arg.arg-index c.loop-arg-test.true) c.loop-arg.invariant.sum;
}
