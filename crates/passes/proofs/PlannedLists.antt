-- The stages of a list of passes, pass by pass, in a table that only gains.
use Rattle.std.proofs.Common.{◌≡◌, ◌∙◌, ap, sym, refl, subst, ℕ, ◌+◌, Bool, true, false, cond, count_by, ◌⊎◌, inl, inr, List, [], ◌∷◌, ◌++◌, take, slice_get, Option, Some, None, All}
use Rattle.std.specs.Prelude.{IfSome}
use Rattle.std.proofs.lemmas.List.Elements.{All-nil, All-cons, All-head, All-tail, All-weaker}
use Rattle.std.proofs.lemmas.List.Sums.{sum_by-cons}
use Rattle.smt_terms.specs.Fresh.{Supply}
use Rattle.smt_terms.specs.Sorts.{Name}
use Rattle.smt_terms.specs.Term.{Term}
use Rattle.smt_terms.proofs.Tests.{true_or_false}
use Rattle.smt_terms.specs.declared.ids.NodeId.{NodeId}
use Rattle.smt_terms.specs.declared.ids.SymId.{SymId}
use Rattle.term_table.specs.Formulas.{Formulas, IsNode, IsSymbol}
use Rattle.term_walk.specs.Walking.{GrowsTo}
use Rattle.script_read.specs.declared.scripts.Command.{Command as NodeCommand}
use Rattle.script_read.specs.declared.scripts.Command.TheVariants.{Passed, DeclareSort, Declare as DeclareCommand, Assert, Check as CheckCommand, CheckAssuming, Push as PushCommand, Pop as PopCommand, Reset as ResetCommand, ResetAssertions as ResetAssertionsCommand, Globals as GlobalsCommand, Exit}
use Rattle.script_read.specs.CommandLists.{command_of, commands_of, is_check as is_node_check}
use Rattle.script_read.specs.Commands.{Command, is_check, checks}
use Rattle.pass_laws.specs.declared.names.Pass.{Pass}
use Rattle.pass_laws.specs.declared.names.Pass.TheVariants.{Simplify, Nnf, Aig, Prenex, Reads, Shannon, SelfSub, Rules, Ite, Cnf, Ackermann}
use Rattle.passes.specs.declared.plan.Stage.{Stage}
use Rattle.passes.specs.declared.plan.Step.{Step}
use Rattle.passes.specs.declared.plan.Step.TheVariants.{Declare, Group, Check, Push, Pop, Reset, ResetAssertions, Globals}
use Rattle.pass_laws.specs.Groups.{making, groups_from}
use Rattle.pass_laws.specs.Laws.{puts_groups, IsReady, HaveSorts, DrawnHaveSorts}
use Rattle.pass_laws.specs.Lists.{makes_groups, groups_after_rules}
use Rattle.pass_laws.specs.LiveGroups.{all_told, all_drawn}
use Rattle.pass_laws.specs.Passed.{apply_pass, passed, replacements}
use Rattle.passes.specs.Plans.{steps_of, told_operands, uses_of, AreUsesOf, HasUse, HaveUses, IsPairOver, IsStepOf, IsStepOver, Tells, TellInOrder, HasStages, IsStageOf, IsStageOver, Uses}
use Rattle.passes.specs.Removing.{AreKept, IsStageKept}
use Rattle.pass_laws.proofs.CarriedLists.{no_rules_before}
use Rattle.pass_laws.proofs.GroupPasses.{replaced-group}
use Rattle.passes.proofs.GroupingSteps.{taken_more}
use Rattle.passes.proofs.KeptOperands.{have-within, kept-still}
use Rattle.passes.proofs.OnePass.{is_group_pass}
use Rattle.passes.proofs.PassAfterPass.{first_in_order, IsBehind}
use Rattle.passes.proofs.PlannedSorts.{steps_over}
use Rattle.passes.proofs.PlannedSteps.{tells_on, steps_over_still}
use Rattle.passes.proofs.StageOperands.{told-stays}

-- ---- steps without applications

none-have : (t : Formulas) (ps : List (SymId × NodeId)) → All (HasUse t None) ps
none-have t [] = All-nil (HasUse t None)
none-have t (p ∷ ps) = All-cons (HasUse t None) p ps tt (none-have t ps)

none-has : (t : Formulas) (st : Step) → HaveUses t None st
none-has t (Group number symbols) = none-have t symbols
none-has t (Declare f) = tt
none-has t Check = tt
none-has t (Push n) = tt
none-has t (Pop n) = tt
none-has t Reset = tt
none-has t ResetAssertions = tt
none-has t (Globals b) = tt

all-none-have : (t : Formulas) (ss : List Step) → All (HaveUses t None) ss
all-none-have t [] = All-nil (HaveUses t None)
all-none-have t (st ∷ ss) = All-cons (HaveUses t None) st ss (none-has t st) (all-none-have t ss)

-- ---- a table that only gains

module _ (t u : Formulas) (grows : GrowsTo t u) where
  within_uses : (uses : Option Uses) → (st : Step) → IsStepOf t st → HaveUses t uses st → HaveUses u uses st
  within_uses None st are have = none-has u st
  within_uses (Some es) st are have = have-within t u grows es st are have

  -- a step with the sorts of its terms is one of the table
  step_of_over : (st : Step) → IsStepOver t st → IsStepOf t st
  step_of_over (Group number symbols) are = All-weaker (IsPairOver t) (λ p. IsSymbol t p.0 × IsNode t p.1) (λ p is. (is.0, is.1)) symbols are
  step_of_over (Declare f) is = is
  step_of_over Check is = tt
  step_of_over (Push n) is = tt
  step_of_over (Pop n) is = tt
  step_of_over Reset is = tt
  step_of_over ResetAssertions is = tt
  step_of_over (Globals b) is = tt

  uses_still : (uses : Option Uses) (ss : List Step) → All (IsStepOver t) ss → All (HaveUses t uses) ss → All (HaveUses u uses) ss
  uses_still uses [] over have = All-nil (HaveUses u uses)
  uses_still uses (st ∷ ss) over have =
      All-cons (HaveUses u uses) st ss
      (within_uses uses st (step_of_over st (All-head (IsStepOver t) st ss over)) (All-head (HaveUses t uses) st ss have))
      (uses_still uses ss (All-tail (IsStepOver t) st ss over) (All-tail (HaveUses t uses) st ss have))

  pub stages_within : (sts : List Stage) → All (IsStageOver t) sts → All (IsStageOver u) sts
  stages_within sts are =
      All-weaker (IsStageOver t) (IsStageOver u)
      (λ st over. record { steps = steps_over_still t u grows st.steps.items over.steps; uses = uses_still (uses_of st) st.steps.items over.steps over.uses }) sts are

  pub kept_within : (sts : List Stage) → All (IsStageKept t) sts → All (IsStageKept u) sts
  kept_within sts are = All-weaker (IsStageKept t) (IsStageKept u) (λ st kept. by (uses_of st) kept) sts are
    where
      by : (uses : Option Uses) → IfSome uses (AreKept t) → IfSome uses (AreKept u)
      by None kept = tt
      by (Some es) kept = kept-still t u grows es kept

  told_still : (uses : Option Uses) → IfSome uses (AreKept t) → told_operands u uses ≡ told_operands t uses
  told_still None kept = refl
  told_still (Some es) kept = told-stays t u grows es kept

  uses_of_still : (uses : Option Uses) (p : Pass) (cs : List (Command Term)) (s : Supply) → IfSome uses (AreKept t) → AreUsesOf t uses p cs s → AreUsesOf u uses p cs s
  uses_of_still uses Ackermann cs s kept are = (told_still uses kept ∙ are.0, are.1)
  uses_of_still uses Simplify cs s kept are = are
  uses_of_still uses Nnf cs s kept are = are
  uses_of_still uses Aig cs s kept are = are
  uses_of_still uses Prenex cs s kept are = are
  uses_of_still uses Reads cs s kept are = are
  uses_of_still uses Shannon cs s kept are = are
  uses_of_still uses SelfSub cs s kept are = are
  uses_of_still uses Rules cs s kept are = are
  uses_of_still uses Ite cs s kept are = are
  uses_of_still uses Cnf cs s kept are = are

  tell_still : (makes : Bool) (sts : List Stage) (p : Pass) (cs : List (Command Term)) (s : Supply) (Before After : List Stage → Type 0) → All (IsStageKept t) sts
      → ((others : List Stage) → All (IsStageKept t) others → Before others → After others) → TellInOrder makes t sts p cs s Before → TellInOrder makes u sts p cs s After
  tell_still true sts p cs s Before After kept on h =
      let all : All (IsStageKept t) (h.first ∷ h.others) = subst (All (IsStageKept t)) h.all kept in
      record {
        first = h.first;
        others = h.others;
        all = h.all;
        told = record {
          told = tells_on t u grows h.first.steps.items (replacements p cs s).0 h.told.told;
          uses = uses_of_still (uses_of h.first) p cs s (All-head (IsStageKept t) h.first h.others all) h.told.uses;
        };
        rest = on h.others (All-tail (IsStageKept t) h.first h.others all) h.rest;
      }
  tell_still false sts p cs s Before After kept on h = on sts kept h

  pub stages_stay : (ps : List Pass) (cs : List (Command Term)) (s : Supply) (sts : List Stage) → All (IsStageKept t) sts → HasStages t sts ps cs s → HasStages u sts ps cs s
  stages_stay [] cs s sts kept has = has
  stages_stay (p ∷ ps) cs s sts kept has =
      tell_still (makes_groups p) sts p cs s (λ others. HasStages t others ps (apply_pass p cs s).0 (apply_pass p cs s).1) (λ others. HasStages u others ps (apply_pass p cs s).0 (apply_pass p cs s).1)
      kept (stages_stay ps (apply_pass p cs s).0 (apply_pass p cs s).1) has

-- ---- one pass

abbrev IsNone : List Stage → Type 0
IsNone sts = sts ≡ []

module _ (t : Formulas) (p : Pass) (cs : List (Command Term)) (s : Supply) where
  -- a pass that makes groups has its stage
  stage_of_group : (st : Stage) → makes_groups p ≡ true → IsStageOf t st p cs s → HasStages t (st ∷ []) (p ∷ []) cs s
  stage_of_group st makes is =
      subst (λ b. TellInOrder b t (st ∷ []) p cs s IsNone) (sym makes) (record { first = st; others = []; all = refl; told = is; rest = refl })

  pub stage_removed : p ≡ Ackermann → (st : Stage) → IsStageOf t st Ackermann cs s → HasStages t (st ∷ []) (p ∷ []) cs s
  stage_removed e st is = stage_of_group st (ap makes_groups e) (subst (λ q. IsStageOf t st q cs s) (sym e) is)

  none_kept : (q : Pass) → puts_groups q ≡ true → (uses : Option Uses) → uses ≡ None → AreUsesOf t uses q cs s
  none_kept Ite is uses none = none
  none_kept Cnf is uses none = none
  none_kept Simplify is uses none = none
  none_kept Nnf is uses none = none
  none_kept Aig is uses none = none
  none_kept Prenex is uses none = none
  none_kept Reads is uses none = none
  none_kept Shannon is uses none = none
  none_kept SelfSub is uses none = none
  none_kept Rules is uses none = none
  none_kept Ackermann is uses none = absurd cc

  pub stage_told : (q : Pass) → p ≡ q → puts_groups q ≡ true → (st : Stage) → Tells t st.steps.items (groups_from (making q) cs s).0 → uses_of st ≡ None → HasStages t (st ∷ []) (p ∷ []) cs s
  stage_told q e is st tells none =
      stage_of_group st (ap makes_groups e ∙ (is_group_pass q is).makes)
      (record {
        told = subst (Tells t st.steps.items) (sym (ap (λ x. (replacements x cs s).0) e ∙ ap (λ r. r.0) (replaced-group q is cs s))) tells;
        uses = subst (λ x. AreUsesOf t (uses_of st) x cs s) (sym e) (none_kept q is (uses_of st) none);
      })

  pub stage_over : DrawnHaveSorts → IsReady cs s → (q : Pass) → p ≡ q → puts_groups q ≡ true → (st : Stage) → Tells t st.steps.items (groups_from (making q) cs s).0 → uses_of st ≡ None → All (IsStageOver t) (st ∷ [])
  stage_over law ready q e is st tells none =
      let sorts : All HaveSorts (all_drawn (steps_of t st.steps.items)) = subst (λ ds. All HaveSorts (all_drawn ds)) (sym (tells.steps ∙ ap (λ r. all_told r.0) (sym (replaced-group q is cs s)))) (law q cs s is ready) in
      All-cons (IsStageOver t) st []
      (record {
        steps = steps_over t st.steps.items tells.numbers sorts;
        uses = subst (λ (uses : Option Uses). All (HaveUses t uses) st.steps.items) (sym none) (all-none-have t st.steps.items);
      })
      (All-nil (IsStageOver t))

  pub stage_kept : (st : Stage) → uses_of st ≡ None → All (IsStageKept t) (st ∷ [])
  stage_kept st none = All-cons (IsStageKept t) st [] (subst (λ (uses : Option Uses). IfSome uses (AreKept t)) (sym none) tt) (All-nil (IsStageKept t))

-- ---- a list with one pass more

module _ (t : Formulas) (more : List Stage) where
  tell_more : (makes : Bool) (sts : List Stage) (q : Pass) (cs : List (Command Term)) (s : Supply) (Before After : List Stage → Type 0) → ((others : List Stage) → Before others → After (others ++ more))
      → TellInOrder makes t sts q cs s Before → TellInOrder makes t (sts ++ more) q cs s After
  tell_more true sts q cs s Before After on h = record { first = h.first; others = h.others ++ more; all = ap (λ xs. xs ++ more) h.all; told = h.told; rest = on h.others h.rest }
  tell_more false sts q cs s Before After on h = on sts h

  pub stages_more : (ps : List Pass) (p : Pass) (cs : List (Command Term)) (s : Supply) → HasStages t more (p ∷ []) (passed ps cs s).0 (passed ps cs s).1
      → (sts : List Stage) → HasStages t sts ps cs s → HasStages t (sts ++ more) (ps ++ p ∷ []) cs s
  stages_more [] p cs s last sts has = subst (λ xs. HasStages t (xs ++ more) (p ∷ []) cs s) (sym has) last
  stages_more (q ∷ ps) p cs s last sts has =
      tell_more (makes_groups q) sts q cs s (λ others. HasStages t others ps (apply_pass q cs s).0 (apply_pass q cs s).1) (λ others. HasStages t others (ps ++ p ∷ []) (apply_pass q cs s).0 (apply_pass q cs s).1)
      (stages_more ps p (apply_pass q cs s).0 (apply_pass q cs s).1 last) has

-- ---- the first passes of a list

-- a pass that makes no groups has no stage whatever the commands are
stage_elsewhere : (t : Formulas) (more : List Stage) (p : Pass) (cs ds : List (Command Term)) (s r : Supply) → makes_groups p ≡ false → HasStages t more (p ∷ []) ds r → HasStages t more (p ∷ []) cs s
stage_elsewhere t more p cs ds s r other has = subst (λ b. TellInOrder b t more p cs s IsNone) (sym other) (subst (λ b. TellInOrder b t more p ds r IsNone) other has)

module _ (ps : List Pass) (cs : List (Command Term)) (s : Supply) (rules : List Name) (i : ℕ) (p : Pass) (ds : List (Command Term)) (r : Supply)
    (at : slice_get ps i ≡ Some p) (order : groups_after_rules ps ≡ false) (is : IsBehind ps cs s rules i ds r) where
  in_order : groups_after_rules (take i ps ++ p ∷ []) ≡ false
  in_order = subst (λ qs. groups_after_rules qs ≡ false) (taken_more ps i p at) (first_in_order (i + 1) ps order)

  -- before a pass that makes groups stored rules weren't asked
  stage_there : (t : Formulas) (more : List Stage) → HasStages t more (p ∷ []) ds r → HasStages t more (p ∷ []) (passed (take i ps) cs s).0 (passed (take i ps) cs s).1
  stage_there t more has = go (true_or_false (makes_groups p))
    where
      go : (makes_groups p ≡ true) ⊎ (makes_groups p ≡ false) → HasStages t more (p ∷ []) (passed (take i ps) cs s).0 (passed (take i ps) cs s).1
      go (inl makes) = subst (λ made. HasStages t more (p ∷ []) made.0 made.1) (is.reached (no_rules_before (take i ps) p in_order makes)) has
      go (inr other) = stage_elsewhere t more p (passed (take i ps) cs s).0 ds (passed (take i ps) cs s).1 r other has

  pub stages_then : (t u : Formulas) → GrowsTo t u → (sts more all : List Stage) → all ≡ sts ++ more → All (IsStageKept t) sts → HasStages t sts (take i ps) cs s → HasStages u more (p ∷ []) ds r → HasStages u all (take (i + 1) ps) cs s
  stages_then t u grows sts more all all_is kept before here =
      subst (λ qs. HasStages u all qs cs s) (sym (taken_more ps i p at))
      (subst (λ xs. HasStages u xs (take i ps ++ p ∷ []) cs s) (sym all_is)
      (stages_more u more (take i ps) p cs s (stage_there u more here) sts (stages_stay t u grows (take i ps) cs s sts kept before)))

-- ---- checks

same_check : (t : Formulas) (c : NodeCommand) → is_node_check c ≡ is_check (command_of t c)
same_check t (Passed text) = refl
same_check t (DeclareSort n) = refl
same_check t (DeclareCommand f) = refl
same_check t (Assert id number) = refl
same_check t CheckCommand = refl
same_check t (CheckAssuming ids) = refl
same_check t (PushCommand n) = refl
same_check t (PopCommand n) = refl
same_check t ResetCommand = refl
same_check t ResetAssertionsCommand = refl
same_check t (GlobalsCommand b) = refl
same_check t Exit = refl

pub same_checks : (t : Formulas) (ks : List NodeCommand) → count_by is_node_check ks ≡ checks (commands_of t ks)
same_checks t [] = refl
same_checks t (c ∷ ks) =
    sum_by-cons (λ d. cond (is_node_check d) 1 0) c ks
    ∙ (λ i. cond (same_check t c i) 1 0 + same_checks t ks i)
    ∙ sym (sum_by-cons (λ d. cond (is_check d) 1 0) (command_of t c) (commands_of t ks))
