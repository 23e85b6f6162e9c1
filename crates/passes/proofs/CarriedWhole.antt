-- The answers of carrying a model over the stages of a plan, as answers for the passes that the plan is of.
use Rattle.std.proofs.Common.{◌≡◌, ◌∙◌, sym, ap, subst, ℕ, List, map, Result, Err, None}
use Rattle.smt_terms.specs.Fresh.{Supply}
use Rattle.smt_terms.specs.Models.{Model}
use Rattle.smt_terms.specs.Term.{Term}
use Rattle.term_table.specs.Formulas.{Formulas}
use Rattle.script_read.specs.Commands.{Command}
use Rattle.models.specs.ModelView.{ModelLists}
use Rattle.passes.specs.declared.carrying.CarryFault.{CarryFault}
use Rattle.passes.specs.declared.searching.Live.{Live as FoundLive}
use Rattle.pass_laws.specs.declared.names.Pass.{Pass}
use Rattle.passes.specs.declared.plan.Plan.{Plan}
use Rattle.passes.specs.declared.plan.Stage.{Stage as PlanStage}
use Rattle.pass_laws.specs.Carry.{all_asked}
use Rattle.passes.specs.Carrying.{IsCheck, CarriesBack, CarriesForth}
use Rattle.pass_laws.specs.Laws.{IsReady}
use Rattle.pass_laws.specs.LiveGroups.{Told, met_of, back_by, back_stages_by, forth_by, forth_stages_by}
use Rattle.passes.specs.LiveRows.{all_asked_at, AreAppliedAt}
use Rattle.passes.specs.LiveSymbols.{live_of, lives_at, all_asked_in, widest_of, AreLiveAt, IsTooWide, Answers}
use Rattle.passes.specs.Plans.{told_of, told_in, IsPlanOf}
use Rattle.passes.proofs.CarriedAnswers.{carries_back, carries_forth}
use Rattle.passes.proofs.CarriedForth.{carried_wide, carried_model}
use Rattle.passes.proofs.CarriedPlans.{CarryLaws, plan_applied}
use Rattle.passes.proofs.LiveStages.{asked_forth_by}
use Rattle.passes.proofs.ReturnedStages.{asked_back_all}

module _ (laws : CarryLaws) (t : Formulas) (plan : Plan) (ps : List Pass) (cs : List (Command Term)) (s : Supply) (is : IsPlanOf t plan ps cs s) (ready : IsReady cs s) (k : ℕ) (check : IsCheck k cs) (m : Model)
    (stages : List PlanStage) (all : stages ≡ plan.stages.items) (found lives : List FoundLive) (same : lives ≡ found) (are : AreLiveAt t k (told_in t plan) found) where
  abbrev tolds : List Told
  tolds = map (told_of t) stages

  told_are : tolds ≡ told_in t plan
  told_are = ap (λ ss. map (told_of t) ss) all

  live_are : AreLiveAt t k tolds lives
  live_are = ap (λ rs. lives_at t rs) same ∙ are ∙ ap (λ sts. map (λ (st : Told). live_of (met_of k st)) sts) (sym told_are)

  applied : AreAppliedAt k tolds
  applied = subst (AreAppliedAt k) (sym told_are) (plan_applied laws t plan ps cs s is ready k check.0 check.1)

  asked_back_are : all_asked (back_stages_by k (told_in t plan) m) ≡ all_asked_at t stages lives
  asked_back_are = ap (λ sts. all_asked (back_stages_by k sts m)) (sym told_are) ∙ asked_back_all t k m stages lives live_are

  pub back_wide : (e : CarryFault) → IsTooWide (all_asked_at t stages lives) e → CarriesBack t ps cs s k m (Err e)
  back_wide e wide =
      carries_back laws t plan ps cs s is ready k m (Err e)
      (carried_wide t cs k check (back_stages_by k (told_in t plan) m) (back_by k (told_in t plan) m) (all_asked_at t stages lives) asked_back_are e wide)

  pub back_model : (result : Result ModelLists CarryFault) → widest_of (all_asked_at t stages lives) ≡ None
      → ((j : ℕ) → AreLiveAt t j tolds lives → AreAppliedAt j tolds → Answers t (back_stages_by j tolds m) (back_by j tolds m) result) → CarriesBack t ps cs s k m result
  back_model result narrow gives =
      carries_back laws t plan ps cs s is ready k m result
      (carried_model t cs k check (back_stages_by k (told_in t plan) m) (back_by k (told_in t plan) m) (all_asked_at t stages lives) asked_back_are result narrow
      (subst (λ sts. Answers t (back_stages_by k sts m) (back_by k sts m) result) told_are (gives k live_are applied)))

  asked_forth_are : all_asked (forth_stages_by k (told_in t plan) m) ≡ all_asked_in (lives_at t lives)
  asked_forth_are = asked_forth_by k (told_in t plan) m ∙ ap all_asked_in (sym (ap (λ rs. lives_at t rs) same ∙ are))

  pub forth_wide : (e : CarryFault) → IsTooWide (all_asked_in (lives_at t lives)) e → CarriesForth t ps cs s k m (Err e)
  forth_wide e wide =
      carries_forth laws t plan ps cs s is ready k m (Err e)
      (carried_wide t cs k check (forth_stages_by k (told_in t plan) m) (forth_by k (told_in t plan) m) (all_asked_in (lives_at t lives)) asked_forth_are e wide)

  pub forth_model : (result : Result ModelLists CarryFault) → widest_of (all_asked_in (lives_at t lives)) ≡ None
      → ((j : ℕ) → AreLiveAt t j tolds lives → Answers t (forth_stages_by j tolds m) (forth_by j tolds m) result) → CarriesForth t ps cs s k m result
  forth_model result narrow gives =
      carries_forth laws t plan ps cs s is ready k m result
      (carried_model t cs k check (forth_stages_by k (told_in t plan) m) (forth_by k (told_in t plan) m) (all_asked_in (lives_at t lives)) asked_forth_are result narrow
      (subst (λ sts. Answers t (forth_stages_by k sts m) (forth_by k sts m) result) told_are (gives k live_are)))
