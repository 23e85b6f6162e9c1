-- What `rewrite` makes of a script.
use Rattle.std.specs.Prelude.{◌≡◌, ℕ, List, length, Option, None, Result, Ok, Err}
use Rattle.smt_terms.specs.Sorts.{Name}
use Rattle.smt_terms.specs.Term.{Term}
use Rattle.script_read.specs.Commands.{Command}
use Rattle.smt_print.specs.declared.layout.Layout.{Layout}
use Rattle.smt_print.specs.Text.{lines}
use Rattle.pass_laws.specs.declared.names.Pass.{Pass}
use Rattle.pass_laws.specs.Led.{Leads}
use Rattle.smtrw_answers.specs.declared.status.Status.{Status}
use Rattle.smtrw_answers.specs.Outputs.{commands, names_left, assertions}
use Rattle.smtrw_run.specs.declared.rewriting.Rewriting.{Rewriting}
use Rattle.smtrw_run.specs.Prepared.{EndsEarly}

-- it is made where nothing ends the run, or the run ends before
abbrev pub EndsFor : Option Status → Result Rewriting Status → Type 0
EndsFor end (Ok r) = end ≡ None
EndsFor end (Err status) = EndsEarly end status

-- some commands to which the passes may have led: their text, and the number of their assertions
abbrev pub IsMadeBy : List ℕ → List Pass → List Name → Layout → Rewriting → Type 0
IsMadeBy b ps rules layout r =
    (cs : List (Command Term)) × Leads ps (commands b) (names_left b) rules cs × (r.text ≡ lines layout cs) × (r.assertions ≡ length (assertions cs))
