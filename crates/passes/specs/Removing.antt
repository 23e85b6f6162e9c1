-- A removal of applications that went over the first commands of a script: what it keeps, over the numbers of a table.
use Rattle.std.specs.Prelude.{◌≡◌, ◌≤◌, ◌==◌, false, List, [], ◌∷◌, ◌++◌, map, All, Some, IfSome}
use Rattle.smt_terms.specs.declared.ids.NodeId.{NodeId}
use Rattle.smt_terms.specs.declared.ids.SymId.{SymId}
use Rattle.smt_terms.specs.Fresh.{Supply, NeverGives}
use Rattle.smt_terms.specs.Groups.{Named}
use Rattle.smt_terms.specs.Sorts.{Symbol}
use Rattle.smt_terms.specs.Term.{Term}
use Rattle.term_groups.specs.Seen.{named_at}
use Rattle.term_table.specs.Formulas.{Formulas, trees_at, symbol_at, AreNodes, IsSymbol}
use Rattle.ackermann.specs.LevelsAt.{Live, levels_at, open_levels, AreLiveIn}
use Rattle.script_read.specs.declared.scripts.Command.{Command as NodeCommand}
use Rattle.script_read.specs.declared.scripts.Command.TheVariants.{Pop}
use Rattle.script_read.specs.CommandLists.{commands_of, AreCommandsOf}
use Rattle.script_read.specs.Commands.{Command, declare}
use Rattle.pass_laws.specs.declared.names.Pass.TheVariants.{Ackermann}
use Rattle.passes.specs.declared.plan.Plan.{Plan}
use Rattle.passes.specs.declared.plan.Stage.{Stage}
use Rattle.passes.specs.declared.plan.Use.{Use}
use Rattle.passes.specs.declared.removing.Removal.{Removal}
use Rattle.pass_laws.specs.LiveGroups.{told, opened_by, operands_behind, operands_with}
use Rattle.pass_laws.specs.Passed.{Way, turn, written, without_arguments}
use Rattle.passes.specs.Plans.{steps_of, Uses, uses_of, IsStepOf, HasUse, HaveUses}

-- ---- the applications that gave way to constants

abbrev pub keys_of : Uses → List SymId
keys_of es = map (λ e. e.0) es

-- no symbol stands twice
abbrev pub AreApart : List SymId → Type 0
AreApart [] = Unit {0}
AreApart (k ∷ ks) = All (λ j. (j.0 == k.0) ≡ false) ks × AreApart ks

-- what took the places of operands, by the constants, in front of what was known before; the last one stands first
abbrev pub operands_kept : Formulas → List (Symbol × List Term) → Uses → List (Symbol × List Term)
operands_kept t ps [] = ps
operands_kept t ps (e ∷ es) = operands_kept t ((symbol_at t e.0, trees_at t e.1.operands.items) ∷ ps) es

-- the application of a symbol of the table, with nodes
abbrev pub IsKept : Formulas → SymId × Use → Type 0
IsKept t e = IsSymbol t e.0 × AreNodes t e.1.operands.items

pub record AreKept (t : Formulas) (es : Uses) : Type 0 where
  pub each : All (IsKept t) es
  pub apart : AreApart (keys_of es)

-- what a stage keeps of applications is of the table
abbrev pub IsStageKept : Formulas → Stage → Type 0
IsStageKept t st = IfSome (uses_of st) (AreKept t)

-- so for each stage; such a plan stays one of its passes in every table that gained
abbrev pub IsPlanKept : Formulas → Plan → Type 0
IsPlanKept t plan = All (IsStageKept t) plan.stages.items

-- with the applications of these constants behind those that were kept, where these are the constants that are live
pub record Keeps (t : Formulas) (ns : Named) (ps : List (SymId × NodeId)) (old new : Uses) : Type 0 where
  pub operands : operands_kept t [] new ≡ operands_with (operands_kept t [] old) ns (named_at t ps)
  pub nodes : All (λ e. AreNodes t e.1.operands.items) old → All (λ e. AreNodes t e.1.operands.items) new
  pub these : All (HasUse t (Some new)) ps
  pub others : (p : SymId × NodeId) → HasUse t (Some old) p → HasUse t (Some new) p

-- ---- a removal

-- the names that are left are none of its constants'
pub record IsRemovalOver (t : Formulas) (s : Supply) (r : Removal) : Type 0 where
  pub commands : AreCommandsOf t r.commands
  pub steps : All (IsStepOf t) r.steps.items
  pub live : AreLiveIn t r.ack
  pub kept : AreKept t r.uses.entries
  pub names : All (λ k. NeverGives s (symbol_at t k).name) (keys_of r.uses.entries)
  pub uses : All (HaveUses t (Some r.uses.entries)) r.steps.items

abbrev pub way_of : Formulas → Removal → Supply → Way
way_of t r s = record { levels = levels_at t r.ack; names = s }

-- the second is the first with one command more
pub record Goes (t u : Formulas) (c : Command Term) (s q : Supply) (old new : Removal) : Type 0 where
  pub commands : commands_of u new.commands ≡ commands_of t old.commands ++ written Ackermann (turn Ackermann c (way_of t old s)).0
  pub steps : steps_of u new.steps.items ≡ steps_of t old.steps.items ++ told (turn Ackermann c (way_of t old s)).0
  pub way : way_of u new q ≡ (turn Ackermann c (way_of t old s)).1
  pub operands : operands_kept u [] new.uses.entries ≡ operands_behind (operands_kept t [] old.uses.entries) (c ∷ []) (way_of t old s)
  pub opened : open_levels new.ack ≡ opened_by c (open_levels old.ack)

-- ---- a command that asserts nothing

-- it closes no level that isn't open
abbrev pub ClosesOpen : NodeCommand → Live → Type 0
ClosesOpen (Pop n) a = n ≤ open_levels a
ClosesOpen _ a = Unit {0}

-- what stays of it
abbrev pub kept_of : Command Term → List (Command Term)
kept_of (declare f) = without_arguments f.args (declare f ∷ [])
kept_of c = c ∷ []
