-- What reading all commands answers.
use Rattle.std.specs.Prelude.{◌≡◌, ℕ, List, Result, Ok, Err, IsErrAnd}
use Rattle.smt_lex.specs.Lex.{line_at}
use Rattle.smt_terms.specs.Fresh.{Supply}
use Rattle.smt_terms.specs.Term.{Term}
use Rattle.term_table.specs.Formulas.{Formulas}
use Rattle.script_terms.specs.declared.faults.Fault.{Fault}
use Rattle.script_terms.specs.declared.faults.ReadFault.{ReadFault}
use Rattle.script_terms.specs.declared.faults.ReadFault.TheVariants.{Refused as RefusedFor, Memory as NoMemory}
use Rattle.script_terms.specs.declared.faults.Refusal.{Refusal}
use Rattle.script_terms.specs.declared.faults.ScriptFault.{ScriptFault}
use Rattle.script_terms.specs.declared.faults.ScriptFault.TheVariants.{Refused, Memory}
use Rattle.script_read.specs.declared.scripts.Commands.{Commands}
use Rattle.script_read.specs.CommandLists.{commands_of, IsRefusal}
use Rattle.script_read.specs.Commands.{Command as CommandOf}
use Rattle.script_terms.specs.Refusals.{code_of, refused}
use Rattle.script_read.specs.Script.{Numbered, refusal}

-- the refusal of a command, with its number and the line of its byte
pub record IsRefusalOf (bytes : List ℕ) (number : ℕ) (e : Fault) (r : Refusal) : Type 0 where
  pub code : r.code ≡ code_of e.cause
  pub command : r.command ≡ number
  pub line : r.line ≡ line_at bytes e.place
  pub byte : r.byte ≡ e.place

abbrev pub IsScriptFault : List ℕ → ℕ → ReadFault → ScriptFault → Type 0
IsScriptFault bytes number (RefusedFor e) (Refused r) = IsRefusalOf bytes number e r
IsScriptFault bytes number (RefusedFor e) Memory = ⊥
IsScriptFault bytes number NoMemory r = r ≡ Memory

-- the answer is the commands with the names that are left, or the first refusal
abbrev pub ReadsCommands : Formulas → List ℕ → Supply → Result (List (CommandOf Term) × Supply) Numbered → Result Commands ScriptFault → Type 0
ReadsCommands t bytes left r (Ok cs) = r ≡ Ok (commands_of t cs, left)
ReadsCommands t bytes left r (Err (Refused e)) = IsErrAnd r (λ n. IsRefusal e (refused (refusal bytes n)))
ReadsCommands t bytes left r (Err Memory) = Unit {0}
