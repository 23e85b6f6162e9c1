-- What the steps of a stage tell, command by command, in a table that only gains.
use Rattle.std.proofs.Common.{◌≡◌, ◌∙◌, ap, sym, refl, subst, ℕ, ◌+◌, List, [], ◌∷◌, ◌++◌, take, slice_get, Option, Some, None, All, append-nil}
use Rattle.std.specs.Prelude.{option_to_list, IfSome}
use Rattle.std.proofs.lemmas.List.{map-append}
use Rattle.std.proofs.lemmas.List.Elements.{All-append, All-nil, All-cons, All-weaker}
use Rattle.std.proofs.lemmas.Grind.{flat_map-append}
use Rattle.smt_terms.specs.Fresh.{Supply}
use Rattle.smt_terms.specs.Rank.{sort_of}
use Rattle.smt_terms.specs.Sorts.{Symbol}
use Rattle.smt_terms.specs.Term.{Term}
use Rattle.smt_terms.specs.declared.ids.NodeId.{NodeId}
use Rattle.smt_terms.specs.declared.ids.SymId.{SymId}
use Rattle.term_table.specs.Formulas.{Formulas, tree, symbol_at, sort_or_bool, IsNode, IsSymbol}
use Rattle.term_subst.specs.declared.maps.Group.{Group as NodeGroup}
use Rattle.term_groups.specs.Seen.{named_at, ArePairs, IsGroup}
use Rattle.term_walk.specs.Walking.{GrowsTo}
use Rattle.script_terms.proofs.Grown.{same_map, symbol_within, symbol_stays, node_stays, tree_stays}
use Rattle.script_read.specs.declared.scripts.Command.{Command}
use Rattle.script_read.specs.declared.scripts.Command.TheVariants.{Passed, DeclareSort, Declare, Assert, Check, CheckAssuming, Push, Pop, Reset, ResetAssertions, Globals, Exit}
use Rattle.script_read.specs.CommandLists.{command_of}
use Rattle.script_read.specs.Commands.{Command as CommandOf, declare, assert}
use Rattle.passes.specs.declared.plan.Step.{Step}
use Rattle.passes.specs.declared.plan.Step.TheVariants.{Declare as DeclareStep, Group, Check as CheckStep, Push as PushStep, Pop as PopStep, Reset as ResetStep, ResetAssertions as ResetAssertionsStep, Globals as GlobalsStep}
use Rattle.pass_laws.specs.Groups.{Making, groups_from}
use Rattle.pass_laws.specs.LiveGroups.{told, all_told}
use Rattle.pass_laws.specs.Passed.{Replacement}
use Rattle.passes.specs.Plans.{step_of, steps_of, told_by, IsStepOf, IsPairOver, IsStepOver, Tells}
use Rattle.passes.proofs.GroupingLists.{made_on}
use Rattle.passes.proofs.GroupingSteps.{taken_more}

-- ---- a table that only gains

module _ (t u : Formulas) (grows : GrowsTo t u) where
  pair_within : (p : SymId × NodeId) → IsSymbol t p.0 × IsNode t p.1 → IsSymbol u p.0 × IsNode u p.1
  pair_within p is = (symbol_within t u grows p.0 is.0, node_stays t u grows p.1 is.1)

  pub step_within : (st : Step) → IsStepOf t st → IsStepOf u st
  step_within (Group number symbols) are = All-weaker (λ p. IsSymbol t p.0 × IsNode t p.1) (λ p. IsSymbol u p.0 × IsNode u p.1) pair_within symbols are
  step_within (DeclareStep f) is = symbol_within t u grows f is
  step_within CheckStep are = tt
  step_within (PushStep n) are = tt
  step_within (PopStep n) are = tt
  step_within ResetStep are = tt
  step_within ResetAssertionsStep are = tt
  step_within (GlobalsStep b) are = tt

  named_stay : (ps : List (SymId × NodeId)) → ArePairs t ps → named_at u ps ≡ named_at t ps
  named_stay ps are =
      same_map (λ p. (symbol_at u p.0, tree u p.1)) (λ p. (symbol_at t p.0, tree t p.1)) ps
      (All-weaker (λ p. IsSymbol t p.0 × IsNode t p.1) (λ p. ◌≡◌ {A = Symbol × Term} (symbol_at u p.0, tree u p.1) (symbol_at t p.0, tree t p.1)) (λ p is i. (symbol_stays t u grows p.0 is.0 i, tree_stays t u grows p.1 is.1 i)) ps are)

  step_stays : (st : Step) → IsStepOf t st → step_of u st ≡ step_of t st
  step_stays (Group number symbols) are = ap (λ ns. assert number (record { number = number; symbols = ns })) (named_stay symbols are)
  step_stays (DeclareStep f) is = ap declare (symbol_stays t u grows f is)
  step_stays CheckStep are = refl
  step_stays (PushStep n) are = refl
  step_stays (PopStep n) are = refl
  step_stays ResetStep are = refl
  step_stays ResetAssertionsStep are = refl
  step_stays (GlobalsStep b) are = refl

  pub steps_within : (ss : List Step) → All (IsStepOf t) ss → All (IsStepOf u) ss
  steps_within ss are = All-weaker (IsStepOf t) (IsStepOf u) step_within ss are

  pub steps_stay : (ss : List Step) → All (IsStepOf t) ss → steps_of u ss ≡ steps_of t ss
  steps_stay ss are = same_map (step_of u) (step_of t) ss (All-weaker (IsStepOf t) (λ st. step_of u st ≡ step_of t st) step_stays ss are)

  -- with the sorts of their terms
  pair_over : (p : SymId × NodeId) → IsPairOver t p → IsPairOver u p
  pair_over p is = (
    symbol_within t u grows p.0 is.0,
    node_stays t u grows p.1 is.1,
    ap (λ f. f.result) (symbol_stays t u grows p.0 is.0) ∙ is.2 ∙ ap (λ v. sort_or_bool (sort_of v)) (sym (tree_stays t u grows p.1 is.1)),
  )

  step_over_still : (st : Step) → IsStepOver t st → IsStepOver u st
  step_over_still (Group number symbols) are = All-weaker (IsPairOver t) (IsPairOver u) pair_over symbols are
  step_over_still (DeclareStep f) is = symbol_within t u grows f is
  step_over_still CheckStep are = tt
  step_over_still (PushStep n) are = tt
  step_over_still (PopStep n) are = tt
  step_over_still ResetStep are = tt
  step_over_still ResetAssertionsStep are = tt
  step_over_still (GlobalsStep b) are = tt

  pub steps_over_still : (ss : List Step) → All (IsStepOver t) ss → All (IsStepOver u) ss
  steps_over_still ss are = All-weaker (IsStepOver t) (IsStepOver u) step_over_still ss are

  pub tells_on : (ss : List Step) (rs : List (CommandOf Replacement)) → Tells t ss rs → Tells u ss rs
  tells_on ss rs is = record { numbers = steps_within ss is.numbers; steps = steps_stay ss is.numbers ∙ is.steps }

-- ---- one command

abbrev IsOther : Command → Type 0
IsOther c = (id : NodeId) (number : ℕ) → c ≡ Assert id number → ⊥

told_alone : (make : Making) (t : Formulas) (s : Supply) (c : Command) → IsOther c → all_told (groups_from make (command_of t c ∷ []) s).0 ≡ told_by t c
told_alone make t s (Passed text) other = refl
told_alone make t s (DeclareSort k) other = refl
told_alone make t s (Declare f) other = append-nil (told (declare (symbol_at t f)))
told_alone make t s (Assert id number) other = absurd (other id number refl)
told_alone make t s Check other = refl
told_alone make t s (CheckAssuming ids) other = refl
told_alone make t s (Push n) other = refl
told_alone make t s (Pop n) other = refl
told_alone make t s Reset other = refl
told_alone make t s ResetAssertions other = refl
told_alone make t s (Globals b) other = refl
told_alone make t s Exit other = refl

numbers_of : (t : Formulas) (o : Option Step) → IfSome o (IsStepOf t) → All (IsStepOf t) (option_to_list o)
numbers_of t None is = All-nil (IsStepOf t)
numbers_of t (Some st) is = All-cons (IsStepOf t) st [] is (All-nil (IsStepOf t))

-- the step of a command that is no assertion
pub tells_other : (make : Making) (t : Formulas) (s : Supply) (c : Command) (o : Option Step) → IsOther c → steps_of t (option_to_list o) ≡ told_by t c → IfSome o (IsStepOf t)
    → Tells t (option_to_list o) (groups_from make (command_of t c ∷ []) s).0
tells_other make t s c o other is numbers = record { numbers = numbers_of t o numbers; steps = is ∙ sym (told_alone make t s c other) }

-- the step of an assertion with its group
pub tells_group : (make : Making) (t u : Formulas) (s : Supply) (id : NodeId) (number : ℕ) (n : NodeGroup) (c : Command) → c ≡ Assert id number → IsGroup u n (make (tree t id) s).group
    → Tells u (Group number n.symbols ∷ []) (groups_from make (command_of t c ∷ []) s).0
tells_group make t u s id number n c assertion is =
    subst (λ d. Tells u (Group number n.symbols ∷ []) (groups_from make (command_of t d ∷ []) s).0) (sym assertion)
    (record {
      numbers = All-cons (IsStepOf u) (Group number n.symbols) [] is.pairs (All-nil (IsStepOf u));
      steps = ap (λ ns. assert number (record { number = number; symbols = ns }) ∷ []) is.symbols;
    })

-- ---- one command after the other

-- none yet
pub tells_none : (make : Making) (t : Formulas) (cs : List (CommandOf Term)) (s : Supply) → Tells t [] (groups_from make (take 0 cs) s).0
tells_none make t [] s = record { numbers = All-nil (IsStepOf t); steps = refl }
tells_none make t (c ∷ cs) s = record { numbers = All-nil (IsStepOf t); steps = refl }

-- what was told so far in an earlier table, and what one command more tells
pub tells_more : (make : Making) (t u : Formulas) → GrowsTo t u → (cs : List (CommandOf Term)) (s r : Supply) (i : ℕ) (c : CommandOf Term) → slice_get cs i ≡ Some c
    → r ≡ (groups_from make (take i cs) s).1 → (ss more all : List Step) → all ≡ ss ++ more
    → Tells t ss (groups_from make (take i cs) s).0 → Tells u more (groups_from make (c ∷ []) r).0 → Tells u all (groups_from make (take (i + 1) cs) s).0
tells_more make t u grows cs s r i c at left ss more all all_is before here =
    let now = tells_on t u grows ss (groups_from make (take i cs) s).0 before in
    let made = ap (λ es. (groups_from make es s).0) (taken_more cs i c at) ∙ ap (λ z. z.0) (made_on make (take i cs) (c ∷ []) s) in
    let last = ap (λ q. (groups_from make (c ∷ []) q).0) left in
    subst (λ xs. Tells u xs (groups_from make (take (i + 1) cs) s).0) (sym all_is)
    (record {
      numbers = All-append (IsStepOf u) ss more now.numbers here.numbers;
      steps =
          map-append (step_of u) ss more
          ∙ (λ j. now.steps j ++ (here.steps ∙ ap all_told last) j)
          ∙ sym (flat_map-append told (groups_from make (take i cs) s).0 (groups_from make (c ∷ []) (groups_from make (take i cs) s).1).0)
          ∙ ap all_told (sym made);
    })
