-- The steps before a check, one after the other.
use Rattle.std.proofs.Common.{◌≡◌, ◌∙◌, sym, ap, refl, subst, ℕ, zero, suc, All, ◌+◌, ◌-◌, ◌≤◌, ◌==◌, false, inl, inr, if◌then◌else◌, List, [], ◌∷◌, ◌++◌, map, take, drop, length, slice_get, Some, append_assoc, arith}
use Rattle.std.proofs.lemmas.Bool.Decides.{Decides-eqb}
use Rattle.std.proofs.lemmas.List.Elements.{All-nil, All-cons}
use Rattle.std.proofs.lemmas.List.{map-append, append-nil, length-map, at_drop_all}
use Rattle.smt_terms.proofs.Tests.{true_or_false}
use Rattle.term_table.specs.Formulas.{Formulas}
use Rattle.script_read.specs.Commands.{Command, check}
use Rattle.passes.specs.declared.searching.Live.{Live as FoundLive}
use Rattle.passes.specs.declared.plan.Stage.{Stage}
use Rattle.passes.specs.declared.plan.Step.{Step}
use Rattle.passes.specs.declared.plan.Step.TheVariants.{Declare, Group, Check, Push, Pop, Reset, ResetAssertions, Globals}
use Rattle.pass_laws.specs.LiveGroups.{Drawn, before_check}
use Rattle.passes.specs.LiveRows.{IsLiveStage, AreLiveStages}
use Rattle.passes.specs.LiveSymbols.{Live, live_at, lives_at, AreLiveOver}
use Rattle.passes.specs.Plans.{step_of, steps_of}
use Rattle.passes.proofs.GroupingSteps.{taken_more}
use Rattle.passes.proofs.ListPlaces.{front, all_taken, map_at}

other_before : (t : Formulas) (k : ℕ) (s : Step) (cs : List (Command Drawn)) → (s ≡ Check → ⊥) → before_check k (step_of t s ∷ cs) ≡ step_of t s ∷ before_check k cs
other_before t k (Declare f) cs other = refl
other_before t k (Group number ps) cs other = refl
other_before t k Check cs other = absurd (other refl)
other_before t k (Push n) cs other = refl
other_before t k (Pop n) cs other = refl
other_before t k Reset cs other = refl
other_before t k ResetAssertions cs other = refl
other_before t k (Globals b) cs other = refl

check_before : (k : ℕ) (cs : List (Command Drawn)) → (k == 1) ≡ false → before_check k (check ∷ cs) ≡ check ∷ before_check (k - 1) cs
check_before k cs more = ap (λ b. if b then [] else check ∷ before_check (k - 1) cs) more

not_one : (k : ℕ) → (k ≡ 1 → ⊥) → (k == 1) ≡ false
not_one k other = elim (true_or_false (k == 1)) [ inl one ↦ absurd (other ((Decides-eqb k 1).0 one)) | inr apart ↦ apart ]

module _ (t : Formulas) (steps : List Step) (i : ℕ) (s : Step) (at : slice_get steps i ≡ Some s) (all : List (Command Drawn)) (left : ℕ) (was : all ≡ steps_of t (take i steps) ++ before_check left (drop i (steps_of t steps))) where
  rest : before_check left (drop i (steps_of t steps)) ≡ before_check left (step_of t s ∷ drop (i + 1) (steps_of t steps))
  rest = ap (before_check left) (front (steps_of t steps) i (step_of t s) (map_at (step_of t) steps i s at))

  one_more : (cs : List (Command Drawn)) → steps_of t (take i steps) ++ (step_of t s ∷ cs) ≡ steps_of t (take (i + 1) steps) ++ cs
  one_more cs =
      sym (append_assoc (steps_of t (take i steps)) (step_of t s ∷ []) cs)
      ∙ ap (λ ds. ds ++ cs) (sym (ap (steps_of t) (taken_more steps i s at) ∙ map-append (step_of t) (take i steps) (s ∷ [])))

  pub before_found : s ≡ Check → left ≡ 1 → steps_of t (take i steps) ≡ all
  before_found is one =
      sym
      (was
      ∙ ap (λ cs. steps_of t (take i steps) ++ cs) (rest ∙ (λ j. before_check (one j) (step_of t (is j) ∷ drop (i + 1) (steps_of t steps))))
      ∙ append-nil (steps_of t (take i steps)))

  pub before_other : (s ≡ Check → ⊥) → all ≡ steps_of t (take (i + 1) steps) ++ before_check left (drop (i + 1) (steps_of t steps))
  before_other other =
      was
      ∙ ap (λ cs. steps_of t (take i steps) ++ cs) (rest ∙ other_before t left s (drop (i + 1) (steps_of t steps)) other)
      ∙ one_more (before_check left (drop (i + 1) (steps_of t steps)))

  pub before_checked : s ≡ Check → (left ≡ 1 → ⊥) → all ≡ steps_of t (take (i + 1) steps) ++ before_check (left - 1) (drop (i + 1) (steps_of t steps))
  before_checked is more =
      was
      ∙ ap (λ cs. steps_of t (take i steps) ++ cs)
      (rest
      ∙ ap (λ x. before_check left (step_of t x ∷ drop (i + 1) (steps_of t steps))) is
      ∙ check_before left (drop (i + 1) (steps_of t steps)) (not_one left more)
      ∙ ap (λ x. step_of t x ∷ before_check (left - 1) (drop (i + 1) (steps_of t steps))) (sym is))
      ∙ one_more (before_check (left - 1) (drop (i + 1) (steps_of t steps)))

pub before_all : (t : Formulas) (steps : List Step) (i : ℕ) → length steps ≤ i → (all : List (Command Drawn)) (left : ℕ) → all ≡ steps_of t (take i steps) ++ before_check left (drop i (steps_of t steps)) → steps_of t steps ≡ all
before_all t steps i past all left was =
    let long = length-map steps (step_of t) in
    sym
    (was
    ∙ at_drop_all (λ cs. steps_of t (take i steps) ++ before_check left cs) (steps_of t steps) i (omega (arith, long))
    ∙ append-nil (steps_of t (take i steps))
    ∙ ap (steps_of t) (all_taken steps i past))

-- ---- stage by stage

pub lives-more : {A : Type 0} (t : Formulas) (F : A → Live) (old new : List FoundLive) (r : FoundLive) (sts : List A) (i : ℕ) (st : A) → slice_get sts i ≡ Some st
    → lives_at t old ≡ map F (take i sts) → live_at t r ≡ F st → new ≡ old ++ r ∷ [] → lives_at t new ≡ map F (take (i + 1) sts)
lives-more t F old new r sts i st at before here is =
    ap (lives_at t) is
    ∙ map-append (live_at t) old (r ∷ [])
    ∙ (λ j. before j ++ here j ∷ [])
    ∙ sym (ap (map F) (taken_more sts i st at) ∙ map-append F (take i sts) (st ∷ []))

-- ---- what is live of each stage

live_pushed : (t : Formulas) (sts : List Stage) (rs : List FoundLive) (st : Stage) (r : FoundLive) → AreLiveStages t sts rs → IsLiveStage t st r → AreLiveStages t (sts ++ st ∷ []) (rs ++ r ∷ [])
live_pushed t [] [] st r are is = (is, tt)
live_pushed t [] (x ∷ rs) st r are is = absurd are
live_pushed t (x ∷ sts) [] st r are is = absurd are
live_pushed t (x ∷ sts) (y ∷ rs) st r are is = (are.0, live_pushed t sts rs st r are.1 is)

pub live_stage-more : (t : Formulas) (sts : List Stage) (i : ℕ) (st : Stage) → slice_get sts i ≡ Some st → (old new : List FoundLive) (r : FoundLive) → new ≡ old ++ r ∷ []
    → AreLiveStages t (take i sts) old → IsLiveStage t st r → AreLiveStages t (take (i + 1) sts) new
live_stage-more t sts i st at old new r pushed are is =
    subst (λ xs. AreLiveStages t xs new) (sym (taken_more sts i st at))
    (subst (λ xs. AreLiveStages t (take i sts ++ st ∷ []) xs) (sym pushed) (live_pushed t (take i sts) old st r are is))

pub live_stage-at : (t : Formulas) (sts : List Stage) (rs : List FoundLive) → AreLiveStages t sts rs → (i : ℕ) (st : Stage) (r : FoundLive) → slice_get sts i ≡ Some st → slice_get rs i ≡ Some r → IsLiveStage t st r
live_stage-at t [] rs are i st r at here = absurd cc
live_stage-at t (x ∷ sts) [] are i st r at here = absurd are
live_stage-at t (x ∷ sts) (y ∷ rs) are zero st r at here =
    let first : x ≡ st = cc in
    let second : y ≡ r = cc in
    subst (λ z. IsLiveStage t z r) first (subst (IsLiveStage t x) second are.0)
live_stage-at t (x ∷ sts) (y ∷ rs) are (suc i) st r at here = live_stage-at t sts rs are.1 i st r at here

pub live_stages_count : (t : Formulas) (sts : List Stage) (rs : List FoundLive) → AreLiveStages t sts rs → length rs ≡ length sts
live_stages_count t [] [] are = refl
live_stages_count t [] (y ∷ rs) are = absurd are
live_stages_count t (x ∷ sts) [] are = absurd are
live_stages_count t (x ∷ sts) (y ∷ rs) are = ap suc (live_stages_count t sts rs are.1)

pub live_stages_over : (t : Formulas) (sts : List Stage) (rs : List FoundLive) → AreLiveStages t sts rs → All (AreLiveOver t) rs
live_stages_over t [] [] are = All-nil (AreLiveOver t)
live_stages_over t [] (y ∷ rs) are = absurd are
live_stages_over t (x ∷ sts) [] are = absurd are
live_stages_over t (x ∷ sts) (y ∷ rs) are = All-cons (AreLiveOver t) y rs are.0.live (live_stages_over t sts rs are.1)
