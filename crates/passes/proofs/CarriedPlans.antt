-- What a plan keeps of a list of passes tells how models are carried over all of them, and which terms must be evaluated on the
-- way.
use Rattle.std.proofs.Common.{◌≡◌, ◌∙◌, sym, ap, subst, refl, ℕ, ◌+◌, ◌≤◌, true, cond, List, [], ◌∷◌, ◌++◌, map, length, Option, Some, None, arith}
use Rattle.std.proofs.lemmas.List.{length-map}
use Rattle.std.proofs.lemmas.List.Elements.{All-cons, All-nil}
use Rattle.std.proofs.lemmas.List.Sums.{sum_by-cons}
use Rattle.smt_terms.specs.Fresh.{Supply}
use Rattle.smt_terms.specs.Models.{Model}
use Rattle.smt_terms.specs.Term.{Term}
use Rattle.term_table.specs.Formulas.{Formulas}
use Rattle.script_read.specs.Commands.{Command, passed, check, check_assuming, State, start, after, Point, with_point, points_from, points, kinds, is_check, checks}
use Rattle.pass_laws.specs.declared.names.Pass.{Pass}
use Rattle.pass_laws.specs.declared.names.Pass.TheVariants.{Ite, Cnf, Ackermann}
use Rattle.passes.specs.declared.plan.Plan.{Plan}
use Rattle.passes.specs.declared.plan.Stage.{Stage as PlanStage}
use Rattle.pass_laws.specs.Carry.{Asked, Stage, back, forth_over, forth, asked_back, asked_forth, back_stages, forth_stages}
use Rattle.pass_laws.specs.Laws.{puts_groups, keeps_values, IsReady, KeepsCommands, PassKeepsCommands, PutsGroups, GroupsCarryModels, RemovalsCarryModels, TellsModels, StepsTellModels, TellsRemovals, RemovalsTellModels}
use Rattle.pass_laws.specs.LiveGroups.{Drawn, Operands, all_told, Told, Met, met_at, met_of, asked_of, asked_back_by, back_over_by, forth_over_by, back_by, back_stages_by, forth_by, forth_stages_by, removed_operands}
use Rattle.passes.specs.LiveRows.{AreAppliedBy, AreAppliedAt}
use Rattle.pass_laws.specs.Passed.{apply_pass, replacements}
use Rattle.passes.specs.Plans.{Uses, uses_of, told_operands, AreUsesOf, FirstTells, HasStages, IsPlanOf, told_of, told_in}
use Rattle.pass_laws.proofs.ModelsStay.{back_stays, forth_stays, nothing_asked}

-- the laws of single passes that carrying over a list of them rests on
pub record CarryLaws : Type 0 where
  pub keep : PassKeepsCommands
  pub carry : GroupsCarryModels
  pub tell : StepsTellModels
  pub carry_removals : RemovalsCarryModels
  pub tell_removals : RemovalsTellModels

-- ---- as many checks behind a pass

point_made : (c : Command Term) (s : State Term) (ps : List (Point Term)) → length (with_point c s ps) ≡ cond (is_check c) 1 0 + length ps
point_made check s ps = omega arith
point_made (check_assuming ls) s ps = omega arith
point_made (passed text) s ps = omega arith
point_made _ s ps = omega arith

points_counted : (cs : List (Command Term)) (s : State Term) → length (points_from s cs) ≡ checks cs + 1
points_counted [] s = refl
points_counted (c ∷ cs) s =
    let here = point_made c s (points_from (after c s) cs) in
    let rest = points_counted cs (after c s) in
    let sum = sum_by-cons (λ d. cond (is_check d) 1 0) c cs in
    omega (arith, here, rest, sum)

checks_alike : (cs ds : List (Command Term)) → kinds ds ≡ kinds cs → checks ds ≡ checks cs
checks_alike cs ds same =
    let before = points_counted cs start in
    let behind = points_counted ds start in
    let first = length-map (points cs) (λ p. p.kind) in
    let second = length-map (points ds) (λ p. p.kind) in
    let both = ap length same in
    omega (arith, before, behind, first, second, both)

-- ---- what is told of a list of passes, pass by pass

abbrev told_pass : Pass → List (Command Term) → Supply → Option Operands → Told
told_pass p cs s ops = record { commands = all_told (replacements p cs s).0; operands = ops }

data AreTold : List Pass → List (Command Term) → Supply → List Told → Type 0 where
  no_pass : (cs : List (Command Term)) (s : Supply) → AreTold [] cs s []
  group_pass : (p : Pass) (ps : List Pass) (cs : List (Command Term)) (s : Supply) (ops : Option Operands) (rest : List Told)
      → TellsModels p cs s ops → ((k : ℕ) → 1 ≤ k → k ≤ checks cs → AreAppliedBy ops (met_at k (all_told (replacements p cs s).0)))
      → checks (apply_pass p cs s).0 ≡ checks cs → AreTold ps (apply_pass p cs s).0 (apply_pass p cs s).1 rest
      → AreTold (p ∷ ps) cs s (told_pass p cs s ops ∷ rest)
  plain_pass : (p : Pass) (ps : List Pass) (cs : List (Command Term)) (s : Supply) (rest : List Told)
      → keeps_values p ≡ true → checks (apply_pass p cs s).0 ≡ checks cs → AreTold ps (apply_pass p cs s).0 (apply_pass p cs s).1 rest
      → AreTold (p ∷ ps) cs s rest

abbrev all_told_of : Formulas → List PlanStage → List Told
all_told_of t sts = map (told_of t) sts

-- where no application is removed, no operands are kept
no_uses : (t : Formulas) (uses : Option Uses) (p : Pass) (cs : List (Command Term)) (s : Supply) → puts_groups p ≡ true → AreUsesOf t uses p cs s → uses ≡ None
no_uses t uses Ackermann cs s puts are = absurd cc
no_uses t uses _ cs s puts are = are

module _ (laws : CarryLaws) (t : Formulas) where
  abbrev Below : Pass → List Pass → List (Command Term) → Supply → Type 0
  Below p ps cs s =
      (sts : List PlanStage) → IsReady (apply_pass p cs s).0 (apply_pass p cs s).1 → HasStages t sts ps (apply_pass p cs s).0 (apply_pass p cs s).1
      → AreTold ps (apply_pass p cs s).0 (apply_pass p cs s).1 (all_told_of t sts)

  abbrev First : Pass → List Pass → List (Command Term) → Supply → List PlanStage → Type 0
  First p ps cs s sts = FirstTells t sts p cs s (λ others. HasStages t others ps (apply_pass p cs s).0 (apply_pass p cs s).1)

  -- with the first stage, of which this is told
  with_first : (p : Pass) (ps : List Pass) (cs : List (Command Term)) (s : Supply) (ops : Option Operands) (sts : List PlanStage) (has : First p ps cs s sts) → told_operands t (uses_of has.first) ≡ ops
      → AreTold (p ∷ ps) cs s (told_pass p cs s ops ∷ all_told_of t has.others) → AreTold (p ∷ ps) cs s (all_told_of t sts)
  with_first p ps cs s ops sts has operands is =
      subst (λ xs. AreTold (p ∷ ps) cs s (all_told_of t xs)) (sym has.all)
      (subst (λ ds. AreTold (p ∷ ps) cs s (record { commands = ds; operands = told_operands t (uses_of has.first) } ∷ all_told_of t has.others)) (sym has.told.told.steps)
      (subst (λ o. AreTold (p ∷ ps) cs s (told_pass p cs s o ∷ all_told_of t has.others)) (sym operands) is))

  over_groups : (p : Pass) (ps : List Pass) (cs : List (Command Term)) (s : Supply) → IsReady cs s → Below p ps cs s → puts_groups p ≡ true → (sts : List PlanStage) → First p ps cs s sts
      → AreTold (p ∷ ps) cs s (all_told_of t sts)
  over_groups p ps cs s ready below puts sts has =
      let put : PutsGroups p cs s = laws.carry p cs s puts ready in
      with_first p ps cs s None sts has (ap (told_operands t) (no_uses t (uses_of has.first) p cs s puts has.told.uses))
      (group_pass p ps cs s None (all_told_of t has.others) (laws.tell p cs s puts ready) (λ k some few. tt) (checks_alike cs (apply_pass p cs s).0 put.models.kinds) (below has.others put.ready has.rest))

  over_removal : (ps : List Pass) (cs : List (Command Term)) (s : Supply) → IsReady cs s → Below Ackermann ps cs s → (sts : List PlanStage) → First Ackermann ps cs s sts
      → AreTold (Ackermann ∷ ps) cs s (all_told_of t sts)
  over_removal ps cs s ready below sts has =
      let put : PutsGroups Ackermann cs s = laws.carry_removals cs s ready has.told.uses.1 in
      let tells : TellsRemovals cs s = laws.tell_removals cs s ready has.told.uses.1 in
      with_first Ackermann ps cs s (Some (removed_operands cs s)) sts has has.told.uses.0
      (group_pass Ackermann ps cs s (Some (removed_operands cs s)) (all_told_of t has.others) tells.models tells.functions (checks_alike cs (apply_pass Ackermann cs s).0 put.models.kinds)
      (below has.others put.ready has.rest))

  over_plain : (p : Pass) (ps : List Pass) (cs : List (Command Term)) (s : Supply) → IsReady cs s → Below p ps cs s → keeps_values p ≡ true → (sts : List PlanStage)
      → HasStages t sts ps (apply_pass p cs s).0 (apply_pass p cs s).1 → AreTold (p ∷ ps) cs s (all_told_of t sts)
  over_plain p ps cs s ready below keeps sts has =
      let kept : KeepsCommands cs (apply_pass p cs s) = laws.keep p cs s keeps ready in
      plain_pass p ps cs s (all_told_of t sts) keeps (checks_alike cs (apply_pass p cs s).0 kept.equivalent.kinds) (below sts kept.ready has)

  over_pass : (p : Pass) (ps : List Pass) (cs : List (Command Term)) (s : Supply) → IsReady cs s → Below p ps cs s → (sts : List PlanStage) → HasStages t sts (p ∷ ps) cs s
      → AreTold (p ∷ ps) cs s (all_told_of t sts)
  over_pass Ite ps cs s ready below sts has = over_groups Ite ps cs s ready below refl sts has
  over_pass Cnf ps cs s ready below sts has = over_groups Cnf ps cs s ready below refl sts has
  over_pass Ackermann ps cs s ready below sts has = over_removal ps cs s ready below sts has
  over_pass p ps cs s ready below sts has = over_plain p ps cs s ready below refl sts has

  over_passes : (ps : List Pass) (cs : List (Command Term)) (s : Supply) (sts : List PlanStage) → IsReady cs s → HasStages t sts ps cs s → AreTold ps cs s (all_told_of t sts)
  over_passes [] cs s sts ready has = subst (λ xs. AreTold [] cs s (all_told_of t xs)) (sym has) (no_pass cs s)
  over_passes (p ∷ ps) cs s sts ready has = over_pass p ps cs s ready (over_passes ps (apply_pass p cs s).0 (apply_pass p cs s).1) sts has

-- ---- models

-- no fewer checks behind a pass
still : (k n m : ℕ) → m ≡ n → k ≤ n → k ≤ m
still k n m same few = omega arith

told_back : (ps : List Pass) (cs : List (Command Term)) (s : Supply) (sts : List Told) → AreTold ps cs s sts → (k : ℕ) (m : Model) → 1 ≤ k → k ≤ checks cs
    → back ps cs s k m ≡ back_by k sts m
told_back _ _ _ _ (no_pass cs s) k m some few = refl
told_back _ _ _ _ (group_pass p ps cs s ops rest tells applied same told) k m some few =
    let ds : List (Command Term) = (apply_pass p cs s).0 in
    let r : Supply = (apply_pass p cs s).1 in
    let now : List (Command Drawn) = all_told (replacements p cs s).0 in
    tells.back k (back ps ds r k m) some few ∙ ap (back_over_by ops now (met_at k now)) (told_back ps ds r rest told k m some (still k (checks cs) (checks ds) same few))
told_back _ _ _ _ (plain_pass p ps cs s rest keeps same told) k m some few =
    let ds : List (Command Term) = (apply_pass p cs s).0 in
    let r : Supply = (apply_pass p cs s).1 in
    back_stays p keeps cs s k (back ps ds r k m) ∙ told_back ps ds r rest told k m some (still k (checks cs) (checks ds) same few)

told_forth : (ps : List Pass) (cs : List (Command Term)) (s : Supply) (sts : List Told) → AreTold ps cs s sts → (k : ℕ) (m : Model) → 1 ≤ k → k ≤ checks cs
    → forth ps cs s k m ≡ forth_by k sts m
told_forth _ _ _ _ (no_pass cs s) k m some few = refl
told_forth _ _ _ _ (group_pass p ps cs s ops rest tells applied same told) k m some few =
    let ds : List (Command Term) = (apply_pass p cs s).0 in
    let r : Supply = (apply_pass p cs s).1 in
    let now : List (Command Drawn) = all_told (replacements p cs s).0 in
    ap (forth ps ds r k) (tells.forth k m some few) ∙ told_forth ps ds r rest told k (forth_over_by ops (met_at k now) m) some (still k (checks cs) (checks ds) same few)
told_forth _ _ _ _ (plain_pass p ps cs s rest keeps same told) k m some few =
    let ds : List (Command Term) = (apply_pass p cs s).0 in
    let r : Supply = (apply_pass p cs s).1 in
    ap (forth ps ds r k) (forth_stays p keeps cs s k m) ∙ told_forth ps ds r rest told k m some (still k (checks cs) (checks ds) same few)

-- ---- the terms that must be evaluated, forth: whatever is found stage by stage, where one with nothing asked changes nothing

module _ {B : Type 0} (found : List Stage → B) (with_stage : Stage → B → B)
    (each : (st : Stage) (sts : List Stage) → found (st ∷ sts) ≡ with_stage st (found sts))
    (idle : (m : Model) (b : B) → with_stage (record { model = m; asked = [] }) b ≡ b) where
  stage_found : (m : Model) (some other : List Asked) (rest : List Stage) (b : B) → some ≡ other → found rest ≡ b
      → found (record { model = m; asked = some } ∷ rest) ≡ with_stage (record { model = m; asked = other }) b
  stage_found m some other rest b same is = each (record { model = m; asked = some }) rest ∙ (λ i. with_stage (record { model = m; asked = same i }) (is i))

  forth_found : (ps : List Pass) (cs : List (Command Term)) (s : Supply) (sts : List Told) → AreTold ps cs s sts → (k : ℕ) (m : Model) → 1 ≤ k → k ≤ checks cs
      → found (forth_stages ps cs s k m) ≡ found (forth_stages_by k sts m)
  forth_found _ _ _ _ (no_pass cs s) k m some few = refl
  forth_found _ _ _ _ (group_pass p ps cs s ops rest tells applied same told) k m some few =
      let ds : List (Command Term) = (apply_pass p cs s).0 in
      let r : Supply = (apply_pass p cs s).1 in
      let g : Met = met_at k (all_told (replacements p cs s).0) in
      let later : List Stage = forth_stages_by k rest (forth_over_by ops g m) in
      stage_found m (asked_forth p cs s k) (asked_of g) (forth_stages ps ds r k (forth_over p cs s k m)) (found later) (tells.asked k some few)
      (ap (λ n. found (forth_stages ps ds r k n)) (tells.forth k m some few) ∙ forth_found ps ds r rest told k (forth_over_by ops g m) some (still k (checks cs) (checks ds) same few))
      ∙ sym (each (record { model = m; asked = asked_of g }) later)
  forth_found _ _ _ _ (plain_pass p ps cs s rest keeps same told) k m some few =
      let ds : List (Command Term) = (apply_pass p cs s).0 in
      let r : Supply = (apply_pass p cs s).1 in
      let later : List Stage = forth_stages_by k rest m in
      stage_found m (asked_forth p cs s k) [] (forth_stages ps ds r k (forth_over p cs s k m)) (found later) (nothing_asked p keeps cs s k)
      (ap (λ n. found (forth_stages ps ds r k n)) (forth_stays p keeps cs s k m) ∙ forth_found ps ds r rest told k m some (still k (checks cs) (checks ds) same few))
      ∙ idle m (found later)

-- ---- the same back, where the stage of the first pass stands last

unasked_back : (p : Pass) → keeps_values p ≡ true → (cs : List (Command Term)) (s : Supply) (k : ℕ) → asked_back p cs s k ≡ []
unasked_back Ackermann keeps cs s k = absurd cc
unasked_back _ keeps cs s k = refl

module _ {B : Type 0} (found : List Stage → B) (with_last : B → Stage → B)
    (last : (sts : List Stage) (st : Stage) → found (sts ++ st ∷ []) ≡ with_last (found sts) st)
    (idle : (b : B) (m : Model) → with_last b (record { model = m; asked = [] }) ≡ b) where
  last_found : (sts : List Stage) (b : B) (m n : Model) (some other : List Asked) → found sts ≡ b → m ≡ n → some ≡ other
      → found (sts ++ record { model = m; asked = some } ∷ []) ≡ with_last b (record { model = n; asked = other })
  last_found sts b m n some other is to same = last sts (record { model = m; asked = some }) ∙ (λ i. with_last (is i) (record { model = to i; asked = same i }))

  back_found : (ps : List Pass) (cs : List (Command Term)) (s : Supply) (sts : List Told) → AreTold ps cs s sts → (k : ℕ) (m : Model) → 1 ≤ k → k ≤ checks cs
      → found (back_stages ps cs s k m) ≡ found (back_stages_by k sts m)
  back_found _ _ _ _ (no_pass cs s) k m some few = refl
  back_found _ _ _ _ (group_pass p ps cs s ops rest tells applied same told) k m some few =
      let ds : List (Command Term) = (apply_pass p cs s).0 in
      let r : Supply = (apply_pass p cs s).1 in
      let g : Met = met_at k (all_told (replacements p cs s).0) in
      let less = still k (checks cs) (checks ds) same few in
      let later : List Stage = back_stages_by k rest m in
      last_found (back_stages ps ds r k m) (found later) (back ps ds r k m) (back_by k rest m) (asked_back p cs s k) (asked_back_by ops g)
      (back_found ps ds r rest told k m some less) (told_back ps ds r rest told k m some less) (tells.asked_back k some few)
      ∙ sym (last later (record { model = back_by k rest m; asked = asked_back_by ops g }))
  back_found _ _ _ _ (plain_pass p ps cs s rest keeps same told) k m some few =
      let ds : List (Command Term) = (apply_pass p cs s).0 in
      let r : Supply = (apply_pass p cs s).1 in
      let less = still k (checks cs) (checks ds) same few in
      last_found (back_stages ps ds r k m) (found (back_stages_by k rest m)) (back ps ds r k m) (back ps ds r k m) (asked_back p cs s k) []
      (back_found ps ds r rest told k m some less) refl (unasked_back p keeps cs s k)
      ∙ idle (found (back_stages_by k rest m)) (back ps ds r k m)

-- ---- the functions of live applications

told_applied : (ps : List Pass) (cs : List (Command Term)) (s : Supply) (sts : List Told) → AreTold ps cs s sts → (k : ℕ) → 1 ≤ k → k ≤ checks cs → AreAppliedAt k sts
told_applied _ _ _ _ (no_pass cs s) k some few = All-nil (λ (st : Told). AreAppliedBy st.operands (met_of k st))
told_applied _ _ _ _ (group_pass p ps cs s ops rest tells applied same told) k some few =
    All-cons (λ (st : Told). AreAppliedBy st.operands (met_of k st)) (told_pass p cs s ops) rest (applied k some few)
    (told_applied ps (apply_pass p cs s).0 (apply_pass p cs s).1 rest told k some (still k (checks cs) (checks (apply_pass p cs s).0) same few))
told_applied _ _ _ _ (plain_pass p ps cs s rest keeps same told) k some few =
    told_applied ps (apply_pass p cs s).0 (apply_pass p cs s).1 rest told k some (still k (checks cs) (checks (apply_pass p cs s).0) same few)

-- ---- a plan

module _ (laws : CarryLaws) (t : Formulas) (plan : Plan) (ps : List Pass) (cs : List (Command Term)) (s : Supply)
    (is : IsPlanOf t plan ps cs s) (ready : IsReady cs s) (k : ℕ) (some : 1 ≤ k) (few : k ≤ checks cs) where
  told : AreTold ps cs s (told_in t plan)
  told = over_passes laws t ps cs s plan.stages.items ready is.stages

  pub plan_applied : AreAppliedAt k (told_in t plan)
  plan_applied = told_applied ps cs s (told_in t plan) told k some few

  pub plan_back : (m : Model) → back ps cs s k m ≡ back_by k (told_in t plan) m
  plan_back m = told_back ps cs s (told_in t plan) told k m some few

  pub plan_forth : (m : Model) → forth ps cs s k m ≡ forth_by k (told_in t plan) m
  plan_forth m = told_forth ps cs s (told_in t plan) told k m some few

  pub plan_forth_found : {B : Type 0} (found : List Stage → B) (with_stage : Stage → B → B)
      → ((st : Stage) (sts : List Stage) → found (st ∷ sts) ≡ with_stage st (found sts))
      → ((n : Model) (b : B) → with_stage (record { model = n; asked = [] }) b ≡ b)
      → (m : Model) → found (forth_stages ps cs s k m) ≡ found (forth_stages_by k (told_in t plan) m)
  plan_forth_found found with_stage each idle m = forth_found found with_stage each idle ps cs s (told_in t plan) told k m some few

  pub plan_back_found : {B : Type 0} (found : List Stage → B) (with_last : B → Stage → B)
      → ((sts : List Stage) (st : Stage) → found (sts ++ st ∷ []) ≡ with_last (found sts) st)
      → ((b : B) (n : Model) → with_last b (record { model = n; asked = [] }) ≡ b)
      → (m : Model) → found (back_stages ps cs s k m) ≡ found (back_stages_by k (told_in t plan) m)
  plan_back_found found with_last last idle m = back_found found with_last last idle ps cs s (told_in t plan) told k m some few
