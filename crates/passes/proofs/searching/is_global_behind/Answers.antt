use Rattle.std.proofs.Common.{◌∙◌, ◌∷◌, [], ap, sym, refl, length, false}
use Rattle.std.proofs.lemmas.Option.{slice_get_read}
use Rattle.pass_laws.specs.LiveGroups.{global_behind}
use Rattle.passes.specs.Plans.{step_of, steps_of}
use Rattle.passes.proofs.SearchedSteps.{global-more}
use Rattle.passes.proofs.ListPlaces.{map_at, taken_all}
use Rattle.passes.proofs.searching.is_global_behind.Goals as goal

pub loop-step-preserved : goal.loop-step-preserved
loop-step-preserved c = λ t.
    let steps = c.args.steps.now in
    let i = c.loop-step.step-index in
    let step = c.step-item.result in
    let at = slice_get_read steps (length steps) i step refl c.loop-step-test.true c.step-item.is in
    global-more (steps_of t steps) i (step_of t step) (map_at (step_of t) steps i step at)
    ∙ ap (λ b. global_behind b (step_of t step ∷ [])) (c.loop-step.invariant t)
    ∙ c.is_global_after-is_global.ensures t

pub returns : goal.returns
returns c = λ t. ap (global_behind false) (sym (taken_all (step_of t) c.args.steps.now c.loop-step.step-index c.loop-step-test.false)) ∙ c.loop-step.invariant t
