use Rattle.std.proofs.Common.{◌∙◌, ◌≡◌, ◌≤◌, ap, sym, subst, refl, length, slice_get, Some, List, All}
use Rattle.std.proofs.lemmas.Option.{slice_get_read}
use Rattle.passes.specs.declared.plan.Stage.{Stage}
use Rattle.passes.specs.declared.plan.Step.{Step}
use Rattle.pass_laws.specs.LiveGroups.{met_at, met_of}
use Rattle.passes.specs.LiveRows.{AreLiveStages}
use Rattle.passes.specs.LiveSymbols.{live_of}
use Rattle.passes.specs.Plans.{steps_of, told_of, told_in, uses_of, HaveUses, IsStepOver, IsStageOver}
use Rattle.passes.proofs.ListPlaces.{all_at, map_at, all_taken}
use Rattle.passes.proofs.StepsBefore.{lives-more, live_stage-more}
use Rattle.passes.proofs.searching.live_at_each.Goals as goal

pub loop-stage-preserved : goal.loop-stage-preserved
loop-stage-preserved c =
    let stages = c.args.plan.now.stages.items in
    let items = c.deref-stage-items.result.now in
    let i = c.loop-stage.stage-index in
    let stage = c.stage-item.result in
    let was = c.loop-stage.invariant in
    let at : slice_get stages i ≡ Some stage = subst (λ (ss : List Stage). slice_get ss i ≡ Some stage) c.deref-stage-items.ensures.value (slice_get_read items (length items) i stage refl c.loop-stage-test.true c.stage-item.is) in
    let pushed = c.in_ok-push.ensures.items in
    record {
      live = λ t.
          lives-more t (λ st. live_of (met_of c.args.check st)) c.loop-stage.lives.items c.push.new.self.items c.in_ok-live.live (told_in t c.args.plan.now) i (told_of t stage)
          (map_at (told_of t) stages i stage at) (was.live t)
          (c.in_ok-live.ensures.live t ∙ ap (λ (ss : List Step). live_of (met_at c.args.check (steps_of t ss))) c.as_slice.ensures.value) pushed;
      over = λ t plan.
          let over : IsStageOver t stage = all_at (IsStageOver t) stages i stage at plan in
          live_stage-more t stages i stage at c.loop-stage.lives.items c.push.new.self.items c.in_ok-live.live pushed (was.over t plan)
          (record {
            stage = over;
            live = c.in_ok-live.ensures.over t (subst (λ (ss : List Step). All (IsStepOver t) ss) (sym c.as_slice.ensures.value) over.steps);
            uses = c.in_ok-live.ensures.uses t (uses_of stage) (subst (λ (ss : List Step). All (HaveUses t (uses_of stage)) ss) (sym c.as_slice.ensures.value) over.uses);
          });
    }

pub returns-clause-over : goal.returns-clause-over
returns-clause-over c = λ t plan.
    let items = c.deref-stage-items.result.now in
    let past = subst (λ (ss : List Stage). length ss ≤ c.loop-stage.stage-index) c.deref-stage-items.ensures.value c.loop-stage-test.false in
    subst (λ (ss : List Stage). AreLiveStages t ss c.loop-stage.lives.items) (all_taken c.args.plan.now.stages.items c.loop-stage.stage-index past) (c.loop-stage.invariant.over t plan)
