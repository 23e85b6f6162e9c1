-- What is kept of the passes that a script went through, so that models can be carried over them.
use Rattle.std.specs.Prelude.{◌≡◌, ◌<◌, ◌==◌, Bool, true, false, if◌then◌else◌, List, [], ◌∷◌, map, length, Option, Some, None, option_map, All, IfSome, IsSome}
use Rattle.smt_terms.specs.declared.ids.NodeId.{NodeId}
use Rattle.smt_terms.specs.declared.ids.SymId.{SymId}
use Rattle.smt_terms.specs.Fresh.{Supply}
use Rattle.smt_terms.specs.Rank.{sort_of}
use Rattle.smt_terms.specs.Term.{symbol, Term, over}
use Rattle.term_groups.specs.Seen.{named_at, ArePairs}
use Rattle.term_table.specs.Formulas.{Formulas, tree, trees_at, operands, symbol_at, sort_or_bool, IsNode, AreNodes, IsSymbol}
use Rattle.script_read.specs.declared.scripts.Command.{Command as NodeCommand}
use Rattle.script_read.specs.declared.scripts.Command.TheVariants.{Assert}
use Rattle.script_read.specs.CommandLists.{command_of}
use Rattle.script_read.specs.Commands.{Command, with_asserted, declare, assert, check, push, pop, reset, reset_assertions, globals, checks}
use Rattle.models.specs.ModelView.{symbol_number}
use Rattle.pass_laws.specs.declared.names.Pass.{Pass}
use Rattle.pass_laws.specs.declared.names.Pass.TheVariants.{Ackermann}
use Rattle.passes.specs.declared.plan.Plan.{Plan}
use Rattle.passes.specs.declared.plan.Stage.{Stage}
use Rattle.passes.specs.declared.plan.Use.{Use}
use Rattle.passes.specs.declared.plan.Step.{Step}
use Rattle.passes.specs.declared.plan.Step.TheVariants.{Declare, Group, Check, Push, Pop, Reset, ResetAssertions, Globals}
use Rattle.pass_laws.specs.LiveGroups.{Drawn, Operands, Told, told, all_told, removed_operands}
use Rattle.pass_laws.specs.Lists.{makes_groups}
use Rattle.pass_laws.specs.Passed.{Replacement, literal_kept, apply_pass, refused_by, replacements}

abbrev pub step_of : Formulas → Step → Command Drawn
step_of t (Declare f) = declare (symbol_at t f)
step_of t (Group number symbols) = assert number (record { number = number; symbols = named_at t symbols })
step_of t Check = check
step_of t (Push n) = push n
step_of t (Pop n) = pop n
step_of t Reset = reset
step_of t ResetAssertions = reset_assertions
step_of t (Globals b) = globals b

abbrev pub steps_of : Formulas → List Step → List (Command Drawn)
steps_of t ss = map (step_of t) ss

-- what a command that asserts nothing tells
abbrev pub told_by : Formulas → NodeCommand → List (Command Drawn)
told_by t (Assert id number) = []
told_by t c = told (with_asserted literal_kept (command_of t c))

-- its symbols and nodes are those of the table
abbrev pub IsStepOf : Formulas → Step → Type 0
IsStepOf t (Declare f) = IsSymbol t f
IsStepOf t (Group number symbols) = ArePairs t symbols
IsStepOf t _ = Unit {0}

-- a symbol with a node of its sort
abbrev pub IsPairOver : Formulas → SymId × NodeId → Type 0
IsPairOver t p = IsSymbol t p.0 × IsNode t p.1 × ((symbol_at t p.0).result ≡ sort_or_bool (sort_of (tree t p.1)))

abbrev pub IsStepOver : Formulas → Step → Type 0
IsStepOver t (Declare f) = IsSymbol t f
IsStepOver t (Group number symbols) = All (IsPairOver t) symbols
IsStepOver t _ = Unit {0}

-- ---- the applications that gave way to constants

-- by their constants, each with what took the places of its operands
abbrev pub Uses : Type 0
Uses = List (SymId × Use)

abbrev pub use_of : Uses → SymId → Option Use
use_of [] v = None
use_of (e ∷ es) v = if v.0 == e.0.0 then Some e.1 else use_of es v

abbrev pub operands_at : Formulas → Option Use → List Term
operands_at t None = []
operands_at t (Some u) = trees_at t u.operands.items

-- what took the places of the operands, over the table
abbrev pub told_operands : Formulas → Option Uses → Option Operands
told_operands t None = None
told_operands t (Some es) = Some (λ v. operands_at t (use_of es (symbol_number t.symbols v)))

-- an application of a function with arguments, and nodes of the sorts of its operands
pub record IsUse (t : Formulas) (k : NodeId) (u : Use) : Type 0 where
  pub function : IsSymbol t u.function
  pub some : 0 < length (symbol_at t u.function).args
  pub applied : tree t k ≡ over (symbol (symbol_at t u.function)) (operands (tree t k))
  pub nodes : AreNodes t u.operands.items
  pub sorts : map sort_of (trees_at t u.operands.items) ≡ map (λ a. Some a) (symbol_at t u.function).args

-- the constant of an application has its operands' nodes
abbrev pub HasUse : Formulas → Option Uses → SymId × NodeId → Type 0
HasUse t None p = Unit {0}
HasUse t (Some es) p = IfSome (use_of es p.0) (IsUse t p.1) × IsSome (use_of es p.0)

abbrev pub HaveUses : Formulas → Option Uses → Step → Type 0
HaveUses t uses (Group number symbols) = All (HasUse t uses) symbols
HaveUses t uses _ = Unit {0}

-- ---- stages

abbrev pub uses_of : Stage → Option Uses
uses_of st = option_map (λ u. u.entries) st.uses

pub record IsStageOver (t : Formulas) (st : Stage) : Type 0 where
  pub steps : All (IsStepOver t) st.steps.items
  pub uses : All (HaveUses t (uses_of st)) st.steps.items

-- the steps tell of these replacements what is live where
pub record Tells (t : Formulas) (ss : List Step) (rs : List (Command Replacement)) : Type 0 where
  pub numbers : All (IsStepOf t) ss
  pub steps : steps_of t ss ≡ all_told rs

-- the operands are kept where applications were removed, and there alone
abbrev pub AreUsesOf : Formulas → Option Uses → Pass → List (Command Term) → Supply → Type 0
AreUsesOf t uses Ackermann cs s = (told_operands t uses ≡ Some (removed_operands cs s)) × (refused_by Ackermann cs ≡ None)
AreUsesOf t uses p cs s = uses ≡ None

pub record IsStageOf (t : Formulas) (st : Stage) (p : Pass) (cs : List (Command Term)) (s : Supply) : Type 0 where
  pub told : Tells t st.steps.items (replacements p cs s).0
  pub uses : AreUsesOf t (uses_of st) p cs s

abbrev pub IsPlanOver : Formulas → Plan → Type 0
IsPlanOver t plan = All (IsStageOver t) plan.stages.items

-- the first stage tells of this pass, and the others are as said
pub record FirstTells (t : Formulas) (sts : List Stage) (p : Pass) (cs : List (Command Term)) (s : Supply) (AreOthers : List Stage → Type 0) : Type 0 where
  pub first : Stage
  pub others : List Stage
  pub all : sts ≡ first ∷ others
  pub told : IsStageOf t first p cs s
  pub rest : AreOthers others

-- where the pass makes groups, a stage for it and then others as said; else only these
abbrev pub TellInOrder : Bool → Formulas → List Stage → Pass → List (Command Term) → Supply → (List Stage → Type 0) → Type 0
TellInOrder true t sts p cs s AreOthers = FirstTells t sts p cs s AreOthers
TellInOrder false t sts p cs s AreOthers = AreOthers sts

-- a stage for each pass that makes groups, in order
abbrev pub HasStages : Formulas → List Stage → List Pass → List (Command Term) → Supply → Type 0
HasStages t sts [] cs s = sts ≡ []
HasStages t sts (p ∷ ps) cs s = TellInOrder (makes_groups p) t sts p cs s (λ others. HasStages t others ps (apply_pass p cs s).0 (apply_pass p cs s).1)

-- the plan of a list of passes, of the commands before them and of the names that could be drawn
pub record IsPlanOf (t : Formulas) (plan : Plan) (ps : List Pass) (cs : List (Command Term)) (s : Supply) : Type 0 where
  pub checks : plan.checks ≡ checks cs
  pub stages : HasStages t plan.stages.items ps cs s

-- what each stage tells
abbrev pub told_of : Formulas → Stage → Told
told_of t st = record { commands = steps_of t st.steps.items; operands = told_operands t (uses_of st) }

abbrev pub told_in : Formulas → Plan → List Told
told_in t plan = map (told_of t) plan.stages.items
