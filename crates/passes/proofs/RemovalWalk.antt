-- A removal of applications goes from the first command to the last.
use Rattle.std.proofs.Common.{◌≡◌, ◌∙◌, ap, sym, refl, subst, ℕ, zero, suc, ◌+◌, ◌≤◌, List, [], ◌∷◌, ◌++◌, append_assoc, append-nil, map, take, drop, length, slice_get, is_some, Option, Some, None, true≢false, All, arith}
use Rattle.std.specs.Prelude.{flat_map, unwrap_or}
use Rattle.std.proofs.lemmas.Grind.{flat_map-append}
use Rattle.std.proofs.lemmas.List.{drop_all, take_all, take-append-drop}
use Rattle.std.proofs.lemmas.List.Elements.{All-drop, All-nil}
use Rattle.smt_terms.specs.Fresh.{Supply, NeverGives}
use Rattle.smt_terms.specs.Sorts.{Symbol}
use Rattle.smt_terms.specs.Term.{Term}
use Rattle.term_table.specs.Formulas.{Formulas, symbol_at, IsTable}
use Rattle.term_walk.specs.Walking.{GrowsTo}
use Rattle.ackermann.specs.Ackermann.{one_level}
use Rattle.ackermann.specs.LevelsAt.{Live, levels_at, open_levels, AreLiveIn}
use Rattle.script_read.specs.declared.scripts.Command.{Command as NodeCommand}
use Rattle.script_read.specs.declared.scripts.Command.TheVariants.{Passed, DeclareSort, Declare, Assert, Check, CheckAssuming, Push, Pop, Reset, ResetAssertions, Globals, Exit}
use Rattle.script_read.specs.CommandLists.{command_of, commands_of, IsCommandOf, AreCommandsOf}
use Rattle.script_read.specs.Commands.{Command, passed, declare_sort, declare, assert, check, check_assuming, push, pop, reset, reset_assertions, globals, exit}
use Rattle.script_read.proofs.CommandsStay.{commands_within, commands_stay}
use Rattle.pass_laws.specs.declared.names.Pass.TheVariants.{Ackermann}
use Rattle.passes.specs.declared.plan.Stage.{Stage}
use Rattle.passes.specs.declared.plan.Step.{Step}
use Rattle.passes.specs.declared.removing.Removal.{Removal}
use Rattle.pass_laws.specs.Laws.{IsReady, HaveSorts, LevelsAreOpen, RemovalsTellModels}
use Rattle.pass_laws.specs.LiveGroups.{all_told, all_drawn, told, levels_open, opened_by, opened_from, operands_in, operands_behind}
use Rattle.pass_laws.specs.Passed.{Way, Replacement, turn, replacements_from, replacements, written, apply_pass, least, quantified_use, refused_by}
use Rattle.passes.specs.Plans.{steps_of, uses_of, told_operands, Uses, IsStepOf, HaveUses, IsStageOf, IsStageOver}
use Rattle.passes.specs.Removing.{keys_of, operands_kept, way_of, ClosesOpen, IsKept, AreKept, Goes, IsRemovalOver}
use Rattle.passes.proofs.GroupingSteps.{SameFrom, taken_more}
use Rattle.passes.proofs.PlannedSorts.{steps_over}
use Rattle.passes.proofs.RefusedCommands.{first_left}
use Rattle.passes.proofs.StageOperands.{told-kept}

abbrev way_first : Supply → Way
way_first s = record { levels = one_level; names = s }

abbrev rest_of : List (Command Term) → ℕ → Formulas → Removal → Supply → List (Command Replacement) × Supply
rest_of cs i t r q = replacements_from Ackermann (drop i cs) (way_of t r q)

-- the first i commands are behind the removal, and the rest is to come
pub record StandsAt (cs : List (Command Term)) (s : Supply) (i : ℕ) (t : Formulas) (r : Removal) (q : Supply) : Type 0 where
  pub commands : commands_of t r.commands ++ flat_map (written Ackermann) (rest_of cs i t r q).0 ≡ (apply_pass Ackermann cs s).0
  pub names : (rest_of cs i t r q).1 ≡ (apply_pass Ackermann cs s).1
  pub steps : steps_of t r.steps.items ++ all_told (rest_of cs i t r q).0 ≡ all_told (replacements Ackermann cs s).0
  pub operands : operands_behind (operands_kept t [] r.uses.entries) (drop i cs) (way_of t r q) ≡ operands_behind [] cs (way_first s)
  pub opened : open_levels r.ack ≡ levels_open (take i cs)
  pub taken : flat_map quantified_use (take i cs) ≡ []

-- ---- none yet

pub over-first : (t : Formulas) (s : Supply) (r : Removal) → r.commands ≡ [] → r.steps.items ≡ [] → r.uses.entries ≡ [] → AreLiveIn t r.ack → IsRemovalOver t s r
over-first t s r commands steps uses alive = record {
  commands = subst (AreCommandsOf t) (sym commands) (All-nil (IsCommandOf t));
  steps = subst (All (IsStepOf t)) (sym steps) (All-nil (IsStepOf t));
  live = alive;
  kept = subst (AreKept t) (sym uses) (record { each = All-nil (IsKept t); apart = tt });
  names = subst (λ (es : Uses). All (λ k. NeverGives s (symbol_at t k).name) (keys_of es)) (sym uses) (All-nil (λ k. NeverGives s (symbol_at t k).name));
  uses = subst (All (HaveUses t (Some r.uses.entries))) (sym steps) (All-nil (HaveUses t (Some r.uses.entries)));
}

pub stands-first : (cs : List (Command Term)) (s : Supply) (t : Formulas) (r : Removal) → r.commands ≡ [] → r.steps.items ≡ [] → r.uses.entries ≡ [] → levels_at t r.ack ≡ one_level → open_levels r.ack ≡ 0
    → StandsAt cs s 0 t r s
stands-first cs s t r commands steps uses levels opened =
    let way : way_of t r s ≡ way_first s = λ j. record { levels = levels j; names = s } in
    record {
      commands = λ j. commands_of t (commands j) ++ flat_map (written Ackermann) (replacements_from Ackermann cs (way j)).0;
      names = ap (λ w. (replacements_from Ackermann cs w).1) way;
      steps = λ j. steps_of t (steps j) ++ all_told (replacements_from Ackermann cs (way j)).0;
      operands = λ j. operands_behind (operands_kept t [] (uses j)) cs (way j);
      opened = opened;
      taken = refl;
    }

-- ---- one more

operands-then : (ps : List (Symbol × List Term)) (c : Command Term) (cs : List (Command Term)) (w : Way) → operands_behind (operands_behind ps (c ∷ []) w) cs (turn Ackermann c w).1 ≡ operands_behind ps (c ∷ cs) w
operands-then ps (assert i t) cs w = refl
operands-then ps (passed text) cs w = refl
operands-then ps (declare_sort n) cs w = refl
operands-then ps (declare f) cs w = refl
operands-then ps check cs w = refl
operands-then ps (check_assuming ls) cs w = refl
operands-then ps (push n) cs w = refl
operands-then ps (pop n) cs w = refl
operands-then ps reset cs w = refl
operands-then ps reset_assertions cs w = refl
operands-then ps (globals b) cs w = refl
operands-then ps exit cs w = refl

opened-more : (k : ℕ) (cs : List (Command Term)) (c : Command Term) → opened_from k (cs ++ c ∷ []) ≡ opened_by c (opened_from k cs)
opened-more k [] c = refl
opened-more k (d ∷ cs) c = opened-more (opened_by d k) cs c

module _ (cs : List (Command Term)) (s : Supply) (i : ℕ) (c : Command Term) (at : slice_get cs i ≡ Some c) where
  pub stands-next : (t u : Formulas) (old new : Removal) (q r : Supply) → quantified_use c ≡ [] → Goes t u c q r old new → StandsAt cs s i t old q → StandsAt cs s (i + 1) u new r
  stands-next t u old new q r outside goes stands =
      let w : Way = way_of t old q in
      let rest : List (Command Term) = drop (i + 1) cs in
      let left : drop i cs ≡ c ∷ rest = first_left cs i c at in
      let made : Command Replacement × Way = turn Ackermann c w in
      let others : List (Command Replacement) = (replacements_from Ackermann rest made.1).0 in
      record {
        commands =
            (λ j. goes.commands j ++ flat_map (written Ackermann) (replacements_from Ackermann rest (goes.way j)).0)
            ∙ append_assoc (commands_of t old.commands) (written Ackermann made.0) (flat_map (written Ackermann) others)
            ∙ ap (λ ds. commands_of t old.commands ++ flat_map (written Ackermann) (replacements_from Ackermann ds w).0) (sym left)
            ∙ stands.commands;
        names = ap (λ v. (replacements_from Ackermann rest v).1) goes.way ∙ ap (λ ds. (replacements_from Ackermann ds w).1) (sym left) ∙ stands.names;
        steps =
            (λ j. goes.steps j ++ all_told (replacements_from Ackermann rest (goes.way j)).0)
            ∙ append_assoc (steps_of t old.steps.items) (told made.0) (all_told others)
            ∙ ap (λ ds. steps_of t old.steps.items ++ all_told (replacements_from Ackermann ds w).0) (sym left)
            ∙ stands.steps;
        operands =
            (λ j. operands_behind (goes.operands j) rest (goes.way j))
            ∙ operands-then (operands_kept t [] old.uses.entries) c rest w
            ∙ ap (λ ds. operands_behind (operands_kept t [] old.uses.entries) ds w) (sym left)
            ∙ stands.operands;
        opened = goes.opened ∙ ap (opened_by c) stands.opened ∙ sym (opened-more 0 (take i cs) c) ∙ ap levels_open (sym (taken_more cs i c at));
        taken =
            ap (flat_map quantified_use) (taken_more cs i c at) ∙ flat_map-append quantified_use (take i cs) (c ∷ [])
            ∙ (λ j. stands.taken j ++ (outside j ++ []));
      }

  in_two : take i cs ++ c ∷ drop (i + 1) cs ≡ cs
  in_two = ap (λ ds. take i cs ++ ds) (sym (first_left cs i c at)) ∙ take-append-drop i cs

  -- the first refused assertion, and those behind it
  pub refused-first : (n : ℕ) → flat_map quantified_use (take i cs) ≡ [] → quantified_use c ≡ n ∷ [] → refused_by Ackermann cs ≡ least (n ∷ flat_map quantified_use (drop (i + 1) cs))
  refused-first n taken here =
      ap (λ ds. least (flat_map quantified_use ds)) (sym in_two)
      ∙ ap least (flat_map-append quantified_use (take i cs) (c ∷ drop (i + 1) cs))
      ∙ (λ j. least (taken j ++ (here j ++ flat_map quantified_use (drop (i + 1) cs))))

-- levels that a command closes are open
pub closes-open : LevelsAreOpen → (cs : List (Command Term)) (s : Supply) → IsReady cs s → (t : Formulas) (c : NodeCommand) (i : ℕ) → slice_get cs i ≡ Some (command_of t c) → (a : Live) → open_levels a ≡ levels_open (take i cs)
    → ClosesOpen c a
closes-open law cs s ready t (Pop n) i at a opened =
    let few : n ≤ levels_open (take i cs) = law (take i cs) n (drop (i + 1) cs) s (subst (λ ds. IsReady ds s) (sym (in_two cs s i (pop n) at)) ready) in
    omega (arith, few, opened)
closes-open law cs s ready t (Passed text) i at a opened = tt
closes-open law cs s ready t (DeclareSort k) i at a opened = tt
closes-open law cs s ready t (Declare f) i at a opened = tt
closes-open law cs s ready t (Assert id number) i at a opened = tt
closes-open law cs s ready t Check i at a opened = tt
closes-open law cs s ready t (CheckAssuming ids) i at a opened = tt
closes-open law cs s ready t (Push n) i at a opened = tt
closes-open law cs s ready t Reset i at a opened = tt
closes-open law cs s ready t ResetAssertions i at a opened = tt
closes-open law cs s ready t (Globals b) i at a opened = tt
closes-open law cs s ready t Exit i at a opened = tt

-- ---- the commands that are left

drop-nil : {A : Type 0} (k : ℕ) → drop {A = A} k [] ≡ []
drop-nil zero = refl
drop-nil (suc k) = refl

some-same : {A : Type 0} (x y : A) → Some x ≡ Some y → x ≡ y
some-same x y e = ap (λ o. unwrap_or o x) e

all-same : {A : Type 0} (xs ys : List A) → SameFrom 0 xs ys → xs ≡ ys
all-same [] [] same = refl
all-same [] (y ∷ ys) same = absurd (true≢false (sym (ap is_some (same 0 (omega arith)))))
all-same (x ∷ xs) [] same = absurd (true≢false (ap is_some (same 0 (omega arith))))
all-same (x ∷ xs) (y ∷ ys) same = λ i. some-same x y (same 0 (omega arith)) i ∷ all-same xs ys (λ k le. same (suc k) (omega arith)) i

drop-same : {A : Type 0} (k : ℕ) (xs ys : List A) → SameFrom k xs ys → drop k xs ≡ drop k ys
drop-same zero xs ys same = all-same xs ys same
drop-same (suc k) [] [] same = refl
drop-same (suc k) [] (y ∷ ys) same = sym (drop-nil k) ∙ drop-same k [] ys (λ j le. same (suc j) (omega (arith, le)))
drop-same (suc k) (x ∷ xs) [] same = drop-same k xs [] (λ j le. same (suc j) (omega (arith, le))) ∙ drop-nil k
drop-same (suc k) (x ∷ xs) (y ∷ ys) same = drop-same k xs ys (λ j le. same (suc j) (omega (arith, le)))

map-drop : {A B : Type 0} (f : A → B) (k : ℕ) (xs : List A) → map f (drop k xs) ≡ drop k (map f xs)
map-drop f zero xs = refl
map-drop f (suc k) [] = refl
map-drop f (suc k) (x ∷ xs) = map-drop f k xs

module _ (t u : Formulas) (grows : GrowsTo t u) (ks js : List NodeCommand) (numbers : AreCommandsOf t ks) (k : ℕ) (same : SameFrom k js ks) where
  pub left-within : AreCommandsOf u (drop k js)
  left-within = subst (AreCommandsOf u) (sym (drop-same k js ks same)) (commands_within t u grows (drop k ks) (All-drop (IsCommandOf t) k ks numbers))

  pub left-commands : commands_of u (drop k js) ≡ drop k (commands_of t ks)
  left-commands = ap (commands_of u) (drop-same k js ks same) ∙ commands_stay t u grows (drop k ks) (All-drop (IsCommandOf t) k ks numbers) ∙ map-drop (command_of t) k ks

-- ---- all

module _ (cs : List (Command Term)) (s : Supply) (i : ℕ) (t : Formulas) (r : Removal) (q : Supply) (past : length cs ≤ i) (stands : StandsAt cs s i t r q) where
  none_left : drop i cs ≡ []
  none_left = drop_all i cs past

  pub last-commands : commands_of t r.commands ≡ (apply_pass Ackermann cs s).0
  last-commands =
      sym (append-nil (commands_of t r.commands))
      ∙ ap (λ ds. commands_of t r.commands ++ flat_map (written Ackermann) (replacements_from Ackermann ds (way_of t r q)).0) (sym none_left) ∙ stands.commands

  pub last-names : q ≡ (apply_pass Ackermann cs s).1
  last-names = ap (λ ds. (replacements_from Ackermann ds (way_of t r q)).1) (sym none_left) ∙ stands.names

  last-steps : steps_of t r.steps.items ≡ all_told (replacements Ackermann cs s).0
  last-steps =
      sym (append-nil (steps_of t r.steps.items))
      ∙ ap (λ ds. steps_of t r.steps.items ++ all_told (replacements_from Ackermann ds (way_of t r q)).0) (sym none_left) ∙ stands.steps

  last-operands : operands_kept t [] r.uses.entries ≡ operands_behind [] cs (way_first s)
  last-operands = ap (λ ds. operands_behind (operands_kept t [] r.uses.entries) ds (way_of t r q)) (sym none_left) ∙ stands.operands

  pub last-refused : refused_by Ackermann cs ≡ None
  last-refused = ap (λ ds. least (flat_map quantified_use ds)) (sym (take_all i cs past)) ∙ ap least stands.taken

  module _ (over : IsRemovalOver t q r) (st : Stage) (steps : st.steps.items ≡ r.steps.items) (uses : uses_of st ≡ Some r.uses.entries) where
    pub last-stage : IsTable t → IsStageOf t st Ackermann cs s
    last-stage table = record {
      told = record {
        numbers = subst (All (IsStepOf t)) (sym steps) over.steps;
        steps = ap (steps_of t) steps ∙ last-steps;
      };
      uses = (ap (told_operands t) uses ∙ told-kept t table r.uses.entries over.kept ∙ ap (λ ps. Some (operands_in ps)) last-operands, last-refused);
    }

    pub last-over : RemovalsTellModels → IsReady cs s → IsStageOver t st
    last-over law ready =
        let sorts : All HaveSorts (all_drawn (all_told (replacements Ackermann cs s).0)) = (law cs s ready last-refused).sorts in
        record {
          steps =
              steps_over t st.steps.items (subst (All (IsStepOf t)) (sym steps) over.steps)
              (subst (λ ds. All HaveSorts (all_drawn ds)) (sym (ap (steps_of t) steps ∙ last-steps)) sorts);
          uses =
              subst (λ (ss : List Step). All (HaveUses t (uses_of st)) ss) (sym steps)
              (subst (λ (es : Option Uses). All (HaveUses t es) r.steps.items) (sym uses) over.uses);
        }
