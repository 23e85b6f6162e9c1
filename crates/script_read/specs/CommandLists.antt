-- The commands that a list of the code's stands for.
use Rattle.std.specs.Prelude.{◌≡◌, ℕ, Bool, true, false, List, [], map, Result, Ok, Err, All, IsErrAnd}
use Rattle.smt_lex.specs.Names.{Name}
use Rattle.smt_terms.specs.Sorts.{Sort, free_sort}
use Rattle.smt_terms.specs.Fresh.{Supply}
use Rattle.smt_terms.specs.Term.{Term}
use Rattle.smt_values.specs.SortIds.{sort_at, is_free, IsSortId}
use Rattle.term_table.specs.Formulas.{Formulas, tree, trees_at, symbol_at, IsNode, AreNodes, IsSymbol}
use Rattle.script_read.specs.declared.scripts.Command.{Command}
use Rattle.script_read.specs.declared.scripts.Script.{Script}
use Rattle.script_read.specs.declared.scripts.Command.TheVariants.{Passed, DeclareSort, Declare, Assert, Check, CheckAssuming, Push, Pop, Reset, ResetAssertions, Globals, Exit}
use Rattle.script_terms.specs.declared.faults.Refusal.{Refusal}
use Rattle.script_terms.specs.declared.faults.ScriptFault.{ScriptFault}
use Rattle.script_terms.specs.declared.faults.ScriptFault.TheVariants.{Refused, Memory}
use Rattle.script_terms.specs.Refusals.{code_of, Unaccepted, unread, refused}
use Rattle.script_read.specs.Commands.{Command as CommandOf, passed, declare_sort, declare, assert, check, check_assuming, push, pop, reset, reset_assertions, globals, exit}
use Rattle.script_read.specs.Script.{script}

abbrev pub free_name : Sort → Name
free_name (free_sort n) = n
free_name _ = []

abbrev pub command_of : Formulas → Command → CommandOf Term
command_of t (Passed text) = passed text
command_of t (DeclareSort s) = declare_sort (free_name (sort_at t.sorts s))
command_of t (Declare f) = declare (symbol_at t f)
command_of t (Assert id number) = assert number (tree t id)
command_of t Check = check
command_of t (CheckAssuming ids) = check_assuming (trees_at t ids)
command_of t (Push n) = push n
command_of t (Pop n) = pop n
command_of t Reset = reset
command_of t ResetAssertions = reset_assertions
command_of t (Globals b) = globals b
command_of t Exit = exit

abbrev pub commands_of : Formulas → List Command → List (CommandOf Term)
commands_of t cs = map (command_of t) cs

-- its numbers are those of the table
abbrev pub IsCommandOf : Formulas → Command → Type 0
IsCommandOf t (DeclareSort s) = IsSortId t.sorts s × (is_free (sort_at t.sorts s) ≡ true)
IsCommandOf t (Declare f) = IsSymbol t f
IsCommandOf t (Assert id number) = IsNode t id
IsCommandOf t (CheckAssuming ids) = AreNodes t ids
IsCommandOf t _ = Unit {0}

abbrev pub AreCommandsOf : Formulas → List Command → Type 0
AreCommandsOf t cs = All (IsCommandOf t) cs

abbrev pub is_check : Command → Bool
is_check Check = true
is_check (CheckAssuming ids) = true
is_check _ = false

-- ---- answers

-- the refusal that a definition names
abbrev pub IsRefusal : Refusal → Unaccepted → Type 0
IsRefusal r (refused n) = (r.code ≡ code_of n.cause) × (r.command ≡ n.command) × (r.line ≡ n.line) × (r.byte ≡ n.byte)
IsRefusal r (unread fault line) = ⊥

-- the answer is the script of these bytes, with the names that are left, or its refusal
abbrev pub ReadsScript : Formulas → List ℕ → Result (Script × Supply) ScriptFault → Type 0
ReadsScript t bytes (Ok r) = script bytes ≡ Ok (commands_of t r.0.commands, r.1)
ReadsScript t bytes (Err (Refused r)) = IsErrAnd (script bytes) (IsRefusal r)
ReadsScript t bytes (Err Memory) = Unit {0}
