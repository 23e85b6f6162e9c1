use Rattle.std.proofs.Common.{◌≡◌, length, refl, slice_get, Some, arith}
use Rattle.std.proofs.lemmas.Option.{slice_get_read}
use Rattle.pass_laws.specs.LiveGroups.{before_check}
use Rattle.passes.specs.Plans.{steps_of}
use Rattle.passes.proofs.StepsBefore.{before_found, before_other, before_checked, before_all}
use Rattle.passes.proofs.searching.before_check.Goals as goal

pub loop-place-preserved-in_default : goal.loop-place-preserved-in_default
loop-place-preserved-in_default c =
    let steps = c.args.steps.now in
    let i = c.loop-place.place in
    let step = c.index-steps-place.result in
    let at : slice_get steps i ≡ Some step = slice_get_read steps (length steps) i step refl c.loop-place-test.true c.index-steps-place.is in
    let was = c.loop-place.invariant in
    record {
      left = was.left;
      before = λ t. before_other t steps i step at (before_check c.args.check (steps_of t steps)) c.loop-place.left (was.before t) c.in_default.not-Check;
    }

pub returns-then-left-eq1-clause-steps : goal.returns-then-left-eq1-clause-steps
returns-then-left-eq1-clause-steps c = λ t.
    let steps = c.args.steps.now in
    let i = c.loop-place.place in
    let step = c.index-steps-place.result in
    let at : slice_get steps i ≡ Some step = slice_get_read steps (length steps) i step refl c.loop-place-test.true c.index-steps-place.is in
    before_found t steps i step at (before_check c.args.check (steps_of t steps)) c.loop-place.left (c.loop-place.invariant.before t) c.in-Check.is c.if-left-eq1.true

pub loop-place-preserved : goal.loop-place-preserved
loop-place-preserved c =
    let steps = c.args.steps.now in
    let i = c.loop-place.place in
    let step = c.index-steps-place.result in
    let at : slice_get steps i ≡ Some step = slice_get_read steps (length steps) i step refl c.loop-place-test.true c.index-steps-place.is in
    let was = c.loop-place.invariant in
    let least = was.left in
    record {
      left = omega arith;
      before = λ t. before_checked t steps i step at (before_check c.args.check (steps_of t steps)) c.loop-place.left (was.before t) c.in-Check.is c.if-left-eq1.false;
    }

pub returns-clause-steps : goal.returns-clause-steps
returns-clause-steps c = λ t.
    let steps = c.args.steps.now in
    before_all t steps c.loop-place.place c.loop-place-test.false (before_check c.args.check (steps_of t steps)) c.loop-place.left (c.loop-place.invariant.before t)
