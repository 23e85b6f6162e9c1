-- What is known between two commands as the code holds it, and what a command makes of it.
use Rattle.std.specs.Prelude.{◌≡◌, List, [], ◌∷◌, Result, Ok, Err}
use Rattle.smt_lex.specs.Forms.{Form, Forms}
use Rattle.smt_terms.specs.Sorts.{Sort, Variable}
use Rattle.term_table.specs.Formulas.{Formulas}
use Rattle.script_terms.specs.declared.faults.ReadFault.{ReadFault}
use Rattle.script_read.specs.declared.scripts.Command.{Command}
use Rattle.script_read.specs.declared.session.Session.{Session}
use Rattle.script_read.specs.CommandLists.{commands_of}
use Rattle.script_terms.specs.Known.{Shows}
use Rattle.script_terms.specs.Replies.{Refuses}
use Rattle.script_terms.specs.Refusals.{Refused, and_then, mapped}
use Rattle.script_read.specs.Script.{Standing, Step}
use Rattle.script_terms.specs.SortForms.{Sorts, sort_in}
use Rattle.script_terms.specs.Variables.{definition_binder, variables_in}

pub record StandsAt (t : Formulas) (x : Session) (s : Standing) : Type 0 where
  pub shows : Shows t x.sofar.fresh x.sofar.scope s.sofar.live
  pub supply : s.sofar.supply ≡ x.sofar.fresh
  pub global : s.global ≡ x.global
  pub begun : s.begun ≡ x.begun
  pub asserted : s.asserted ≡ x.asserted

-- the command gave these commands, and what is known behind it
pub record Steps (t : Formulas) (x : Session) (cs : List Command) (step : Step) : Type 0 where
  pub standing : Standing
  pub stands : StandsAt t x standing
  pub gives : step ≡ Ok (commands_of t cs, standing)

-- the answer is the command's, of which the code's stands for these commands
abbrev pub StepsTo : {A : Type 0} → (A → List Command) → Formulas → Session → Step → Result A ReadFault → Type 0
StepsTo value t x step (Ok a) = Steps t x (value a) step
StepsTo value t x step (Err e) = Refuses step e

abbrev pub one : Command → List Command
one c = c ∷ []

abbrev pub no_command : {A : Type 0} → A → List Command
no_command a = []

-- the parameters of a definition, and then its sort
abbrev pub header_in : Sorts → Forms → Form → Result (List Variable × Sort) Refused
header_in known parameters f = and_then (λ xs. mapped (λ to. (xs, to)) (sort_in known f)) (variables_in definition_binder known [] parameters)
