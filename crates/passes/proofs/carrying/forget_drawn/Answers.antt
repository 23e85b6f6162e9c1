use Rattle.std.proofs.Common.{◌∙◌, ◌≡◌, ap, sym, subst, refl, length, slice_get, take, Some, List}
use Rattle.std.proofs.lemmas.Option.{slice_get_read}
use Rattle.smt_terms.specs.Models.{IsModel}
use Rattle.models.specs.ModelView.{ModelLists, model_at, IsModelOf}
use Rattle.passes.specs.declared.plan.Step.{Step}
use Rattle.pass_laws.specs.LiveGroups.{without_drawn}
use Rattle.passes.specs.LiveSymbols.{dropped_at}
use Rattle.passes.specs.Plans.{step_of, steps_of, IsStepOver}
use Rattle.passes.proofs.ForgottenSymbols.{without-more, group_alone, other_alone}
use Rattle.passes.proofs.ListPlaces.{all_at, map_at}
use Rattle.passes.proofs.carrying.forget_drawn.Goals as goal
use Rattle.passes.proofs.carrying.forget_drawn.Goals.{in-Group, in_default}

pub loop-step-preserved : goal.loop-step-preserved
loop-step-preserved c =
    let steps = c.args.stage.now.steps.items in
    let items = c.deref-step-items.result.now in
    let i = c.loop-step.step-index in
    let step = c.step-item.result in
    let was = c.loop-step.invariant in
    let at : slice_get steps i ≡ Some step = subst (λ (ss : List Step). slice_get ss i ≡ Some step) c.deref-step-items.ensures.value (slice_get_read items (length items) i step refl c.loop-step-test.true c.step-item.is) in
    elim c.match-step.branch [
      | in-Group w ↦ record {
        model = λ t table over.
            ap (λ (x : ModelLists). model_at t x) w.model-is
            ∙ w.forget_symbols.ensures.model t table (subst (IsStepOver t) w.in-Group.is (all_at (IsStepOver t) steps i step at over.steps))
            ∙ ap (dropped_at t _) (was.model t table over)
            ∙ sym (group_alone t (without_drawn (take i (steps_of t steps)) (model_at t c.args.model.now)) step _ _ w.in-Group.is)
            ∙ without-more (steps_of t steps) i (step_of t step) (map_at (step_of t) steps i step at) (model_at t c.args.model.now);
        valid = λ t table over v.
            subst (λ (x : ModelLists). IsModel (model_at t x)) (sym w.model-is)
            (w.forget_symbols.ensures.valid t table (subst (IsStepOver t) w.in-Group.is (all_at (IsStepOver t) steps i step at over.steps)) (was.valid t table over v));
        numbers = λ t n. subst (λ (x : ModelLists). IsModelOf t x) (sym w.model-is) (w.forget_symbols.ensures.numbers t (was.numbers t n));
      }
      | in_default w ↦ record {
        model = λ t table over.
            ap (λ (x : ModelLists). model_at t x) w.model-is
            ∙ was.model t table over
            ∙ sym (other_alone t (without_drawn (take i (steps_of t steps)) (model_at t c.args.model.now)) step w.in_default.not-Group)
            ∙ without-more (steps_of t steps) i (step_of t step) (map_at (step_of t) steps i step at) (model_at t c.args.model.now);
        valid = λ t table over v. subst (λ (x : ModelLists). IsModel (model_at t x)) (sym w.model-is) (was.valid t table over v);
        numbers = λ t n. subst (λ (x : ModelLists). IsModelOf t x) (sym w.model-is) (was.numbers t n);
      }
    ]
