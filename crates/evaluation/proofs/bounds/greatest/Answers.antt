use Rattle.std.proofs.Common.{arith}
use Rattle.evaluation.proofs.BoundLaws.{greatest-next}
use Rattle.evaluation.proofs.bounds.greatest.Goals as goal

pub loop-id-preserved : goal.loop-id-preserved
loop-id-preserved c =
    let next = greatest-next c.args.kept.now c.args.ids.now c.loop-id.id-index (record { 0 = 0 }) c.bound_at-bound.result c.loop-id-test.true c.bound_at-bound.ensures in
    let before = c.loop-id.invariant in
    omega (arith, next, before)
