-- The stages of passes on the way back, from the last to the first: the terms to be evaluated, the models and the refusals.
use Rattle.std.proofs.Common.{◌≡◌, ◌∙◌, sym, ap, refl, subst, ℕ, zero, suc, ◌-◌, ◌<◌, ◌≤◌, true, List, [], ◌∷◌, ◌++◌, map, flat_map, drop, length, slice_get, Err, Option, Some, None, option_map, All}
use Rattle.std.proofs.lemmas.Grind.{flat_map-append}
use Rattle.std.proofs.Math.Seq.{drop-nil}
use Rattle.smt_terms.specs.declared.ids.NodeId.{NodeId}
use Rattle.smt_terms.specs.Groups.{Named}
use Rattle.smt_terms.specs.Models.{Model}
use Rattle.smt_terms.proofs.Tests.{left_true, right_true}
use Rattle.term_table.specs.Formulas.{Formulas, tree}
use Rattle.script_read.specs.Commands.{Command}
use Rattle.passes.specs.declared.carrying.CarryFault.{CarryFault}
use Rattle.passes.specs.declared.carrying.CarryFault.TheVariants.{NoSuchCheck, EvalWidth, Beyond128, Memory}
use Rattle.passes.specs.declared.searching.Live.{Live as FoundLive}
use Rattle.passes.specs.declared.plan.Stage.{Stage as PlanStage}
use Rattle.pass_laws.specs.Carry.{Stage, asked_for, beyond_at, beyond, all_asked}
use Rattle.passes.specs.Carrying.{breaks_in}
use Rattle.pass_laws.specs.LiveGroups.{Drawn, Operands, Met, Told, met_of, asked_back_by, back_over_by, back_by, back_stages_by}
use Rattle.passes.specs.LiveRows.{operands_by, asked_for_rows, asked_at, all_asked_at, back_over_live, operands_told, AreAppliedBy}
use Rattle.passes.specs.LiveSymbols.{Given, Live, given_by, live_of, live_at, beyond_of, breaks_among, widest_of, AreLiveAt, IsBeyondAmong, Answers}
use Rattle.pass_laws.specs.Passed.{or_later}
use Rattle.passes.specs.Plans.{Uses, told_of, told_operands}
use Rattle.passes.proofs.CarriedAnswers.{asked_last, beyond_last, breaks_last, breaks_at}
use Rattle.passes.proofs.ListPlaces.{drop-front}
use Rattle.passes.proofs.LiveStages.{IsNarrow, all_narrow, none_of_narrow}
use Rattle.pass_laws.proofs.NamedTerms.{all_parted}
use Rattle.passes.proofs.TabledRows.{tables_made}

-- ---- the operands of live applications

asked_named : (ops : Operands) (i : ℕ) (ns : Named) → asked_for_rows (Some ops) (given_by i ns) ≡ flat_map (λ n. asked_for i (ops n.0)) ns
asked_named ops i [] = refl
asked_named ops i (n ∷ ns) = ap (λ qs. asked_for i (ops n.0) ++ qs) (asked_named ops i ns)

asked_drawn : (ops : Operands) (ds : List Drawn) → asked_for_rows (Some ops) (flat_map (λ d. given_by d.number d.symbols) ds) ≡ flat_map (λ d. flat_map (λ n. asked_for d.number (ops n.0)) d.symbols) ds
asked_drawn ops [] = refl
asked_drawn ops (d ∷ ds) =
    flat_map-append (λ (g : Given). asked_for g.number (ops g.symbol)) (given_by d.number d.symbols) (flat_map (λ e. given_by e.number e.symbols) ds)
    ∙ (λ i. asked_named ops d.number d.symbols i ++ asked_drawn ops ds i)

asked_met : (ops : Option Operands) (g : Met) → asked_for_rows ops (live_of g).given ≡ asked_back_by ops g
asked_met None g = refl
asked_met (Some ops) g = asked_drawn ops g.live

-- ---- the model before one stage

returned_met : (ops : Option Operands) (cs : List (Command Drawn)) (g : Met) → AreAppliedBy ops g → (m : Model) → back_over_live ops cs (live_of g) m ≡ back_over_by ops cs g m
returned_met None cs g applied m = refl
returned_met (Some ops) cs g applied m = tables_made ops cs g applied m

-- ---- all terms of the stages

module _ (t : Formulas) (k : ℕ) (m : Model) where
  abbrev told_all : List PlanStage → List Told
  told_all sts = map (told_of t) sts

  pub asked_back_all : (sts : List PlanStage) (rs : List FoundLive) → AreLiveAt t k (told_all sts) rs → all_asked (back_stages_by k (told_all sts) m) ≡ all_asked_at t sts rs
  asked_back_all [] rs are = refl
  asked_back_all (st ∷ sts) [] are = absurd cc
  asked_back_all (st ∷ sts) (r ∷ rs) are =
      let live : live_at t r ≡ live_of (met_of k (told_of t st)) = cc in
      let others : AreLiveAt t k (told_all sts) rs = cc in
      let g : Met = met_of k (told_of t st) in
      asked_last (back_stages_by k (told_all sts) m) (record { model = back_by k (told_all sts) m; asked = asked_back_by (operands_told t st) g })
      ∙ (λ i. asked_back_all sts rs others i ++ sym (asked_met (operands_told t st) g) i)
      ∙ ap (λ (x : Live). all_asked_at t sts rs ++ asked_for_rows (operands_told t st) x.given) (sym live)

pub narrow_stage : (t : Formulas) (sts : List PlanStage) (rs : List FoundLive) (i : ℕ) (st : PlanStage) (r : FoundLive) → slice_get sts i ≡ Some st → slice_get rs i ≡ Some r
    → widest_of (all_asked_at t sts rs) ≡ None → widest_of (asked_at t st r) ≡ None
narrow_stage t sts rs i st r at here none = none_of_narrow (asked_at t st r) (go sts rs i at here (all_narrow (all_asked_at t sts rs) none))
  where
    go : (xs : List PlanStage) (ys : List FoundLive) (j : ℕ) → slice_get xs j ≡ Some st → slice_get ys j ≡ Some r → All IsNarrow (all_asked_at t xs ys) → All IsNarrow (asked_at t st r)
    go [] ys j at here all = absurd cc
    go (x ∷ xs) [] j at here all = absurd cc
    go (x ∷ xs) (y ∷ ys) zero at here all =
        let first : x ≡ st = cc in
        let second : y ≡ r = cc in
        subst (λ z. All IsNarrow (asked_at t z r)) first (subst (λ z. All IsNarrow (asked_at t x z)) second (all_parted IsNarrow (all_asked_at t xs ys) (asked_at t x y) all).1)
    go (x ∷ xs) (y ∷ ys) (suc j) at here all = go xs ys j at here (all_parted IsNarrow (all_asked_at t xs ys) (asked_at t x y) all).0

-- the stages from one on
pub asked_front : (t : Formulas) (sts : List PlanStage) (rs : List FoundLive) (place : ℕ) (st : PlanStage) (r : FoundLive) → 0 < place → place ≤ length sts → place ≤ length rs
    → slice_get sts (place - 1) ≡ Some st → slice_get rs (place - 1) ≡ Some r
    → all_asked_at t (drop (place - 1) sts) (drop (place - 1) rs) ≡ all_asked_at t (drop place sts) (drop place rs) ++ asked_at t st r
asked_front t sts rs place st r some within inside at here =
    λ i. all_asked_at t (drop-front sts place st some within at i) (drop-front rs place r some inside here i)

-- ---- one stage more

module _ (t : Formulas) (k : ℕ) (sts : List Told) (place : ℕ) (st : Told) (some : 0 < place) (within : place ≤ length sts) (at : slice_get sts (place - 1) ≡ Some st) (first : Model) where
  abbrev m : Model
  m = back_by k (drop place sts) first

  abbrev this : Stage
  this = record { model = m; asked = asked_back_by st.operands (met_of k st) }

  stages_front : back_stages_by k (drop (place - 1) sts) first ≡ back_stages_by k (drop place sts) first ++ this ∷ []
  stages_front = ap (λ xs. back_stages_by k xs first) (drop-front sts place st some within at)

  pub back-step : back_over_by st.operands st.commands (met_of k st) m ≡ back_by k (drop (place - 1) sts) first
  back-step = ap (λ xs. back_by k xs first) (sym (drop-front sts place st some within at))

  beyond_front : beyond (back_stages_by k (drop place sts) first) ≡ None → beyond (back_stages_by k (drop (place - 1) sts) first) ≡ beyond_of m (asked_back_by st.operands (met_of k st))
  beyond_front none =
      ap beyond stages_front
      ∙ beyond_last (back_stages_by k (drop place sts) first) this
      ∙ ap (λ o. or_later o (beyond_at this)) none

  breaks_front : (a : ℕ) (n : NodeId) → breaks_among m (asked_back_by st.operands (met_of k st)) a (tree t n) ≡ true → breaks_in t (back_stages_by k (drop (place - 1) sts) first) a n ≡ true
  breaks_front a n h =
      ap (λ xs. breaks_in t xs a n) stages_front
      ∙ breaks_last t a n (back_stages_by k (drop place sts) first) this
      ∙ right_true (breaks_in t (back_stages_by k (drop place sts) first) a n) (breaks_at t a n this) h

  -- ---- what a stage gives

  module _ (ops : Option Operands) (cs : List (Command Drawn)) (r : Live) (so : st ≡ record { commands = cs; operands = ops }) (live : r ≡ live_of (met_of k st)) (applied : AreAppliedBy st.operands (met_of k st)) where
    asked_here : asked_for_rows ops r.given ≡ asked_back_by st.operands (met_of k st)
    asked_here = (λ i. asked_for_rows (sym so i).operands (live i).given) ∙ asked_met st.operands (met_of k st)

    pub returned-model : (old new : Model) → old ≡ m → new ≡ back_over_live ops cs r old → new ≡ back_by k (drop (place - 1) sts) first
    returned-model old new before is =
        is
        ∙ (λ i. back_over_live (sym so i).operands (sym so i).commands (live i) (before i))
        ∙ returned_met st.operands st.commands (met_of k st) applied m
        ∙ back-step

    pub returned-beyond : beyond (back_stages_by k (drop place sts) first) ≡ None → (old : Model) → old ≡ m → beyond_of old (asked_for_rows ops r.given) ≡ None → beyond (back_stages_by k (drop (place - 1) sts) first) ≡ None
    returned-beyond none old before fit = beyond_front none ∙ (λ i. beyond_of (sym before i) (sym asked_here i)) ∙ fit

    refused_there : beyond (back_stages_by k (drop place sts) first) ≡ None → (old : Model) → old ≡ m → (a : ℕ) (n : NodeId)
        → beyond_of old (asked_for_rows ops r.given) ≡ Some a → breaks_among old (asked_for_rows ops r.given) a (tree t n) ≡ true
        → (beyond (back_stages_by k (drop (place - 1) sts) first) ≡ Some a) × (breaks_in t (back_stages_by k (drop (place - 1) sts) first) a n ≡ true)
    refused_there none old before a n least breaks = (
      beyond_front none ∙ (λ i. beyond_of (sym before i) (sym asked_here i)) ∙ least,
      breaks_front a n ((λ i. breaks_among (sym before i) (sym asked_here i) a (tree t n)) ∙ breaks),
    )

-- ---- a refusal stays one before earlier stages

module _ (t : Formulas) (k : ℕ) (first : Model) (a : ℕ) (n : NodeId) where
  beyond_stays : (sts : List Told) (i : ℕ) → beyond (back_stages_by k (drop i sts) first) ≡ Some a → beyond (back_stages_by k sts first) ≡ Some a
  beyond_stays sts zero h = h
  beyond_stays [] (suc i) h = sym (ap (λ xs. beyond (back_stages_by k xs first)) (drop-nil (suc i))) ∙ h
  beyond_stays (st ∷ sts) (suc i) h =
      let this : Stage = record { model = back_by k sts first; asked = asked_back_by st.operands (met_of k st) } in
      beyond_last (back_stages_by k sts first) this ∙ ap (λ o. or_later o (beyond_at this)) (beyond_stays sts i h)

  breaks_stay : (sts : List Told) (i : ℕ) → breaks_in t (back_stages_by k (drop i sts) first) a n ≡ true → breaks_in t (back_stages_by k sts first) a n ≡ true
  breaks_stay sts zero h = h
  breaks_stay [] (suc i) h = sym (ap (λ xs. breaks_in t (back_stages_by k xs first) a n) (drop-nil (suc i))) ∙ h
  breaks_stay (st ∷ sts) (suc i) h =
      let this : Stage = record { model = back_by k sts first; asked = asked_back_by st.operands (met_of k st) } in
      breaks_last t a n (back_stages_by k sts first) this ∙ left_true (breaks_in t (back_stages_by k sts first) a n) (breaks_at t a n this) (breaks_stay sts i h)

module _ (t : Formulas) (k : ℕ) (sts : List Told) (place : ℕ) (st : Told) (some : 0 < place) (within : place ≤ length sts) (at : slice_get sts (place - 1) ≡ Some st) (first : Model)
    (ops : Option Operands) (cs : List (Command Drawn)) (r : Live) (so : st ≡ record { commands = cs; operands = ops }) (live : r ≡ live_of (met_of k st)) (applied : AreAppliedBy st.operands (met_of k st))
    (none : beyond (back_stages_by k (drop place sts) first) ≡ None) (old : Model) (before : old ≡ back_by k (drop place sts) first) where
  pub returned_refused : (n : Model) (e : CarryFault) → IsBeyondAmong t old (asked_for_rows ops r.given) e → Answers t (back_stages_by k sts first) n (Err e)
  returned_refused n (NoSuchCheck c count) h = absurd h
  returned_refused n (EvalWidth a bits) h = absurd h
  returned_refused n (Beyond128 a b) h =
      let there = refused_there t k sts place st some within at first ops cs r so live applied none old before a b h.0 h.2 in
      (beyond_stays t k first a b sts (place - 1) there.0, h.1, breaks_stay t k first a b sts (place - 1) there.1)
  returned_refused n Memory h = tt

-- where applications were removed, the operands of a stage are those of its entries
pub asked_with : {A : Type 0} (t : Formulas) (o : Option A) (u : A) → o ≡ Some u → (entries : A → Uses) (gs : List Given) → asked_for_rows (told_operands t (option_map entries o)) gs ≡ asked_for_rows (Some (operands_by t (entries u))) gs
asked_with t o u is entries gs = ap (λ x. asked_for_rows (told_operands t (option_map entries x)) gs) is
