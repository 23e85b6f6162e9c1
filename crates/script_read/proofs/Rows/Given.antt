-- What rows are written with: what a text is read as, and terms and symbols by short names.
use Rattle.std.specs.Prelude.{ℕ, List, [], map, ℤ, Result, Ok, Err, Option, Some, None}
use Rattle.smt_terms.specs.declared.op.Op.{Op}
use Rattle.smt_terms.specs.declared.op.Op.TheVariants.{Whole, Bits}
use Rattle.smt_terms.specs.Fresh.{Supply}
use Rattle.smt_terms.specs.Sorts.{Name, Sort, Symbol, Variable}
use Rattle.smt_terms.specs.Term.{op, symbol, Term, apply, none, ◌⨾◌}
use Rattle.script_terms.specs.Refusals.{Unaccepted}
use Rattle.script_read.specs.Commands.{Command}
use Rattle.smt_lex.specs.FormText.{form_text}
use Rattle.script_read.specs.Scenes.{Asserted}
use Rattle.script_read.specs.Script.{script}

abbrev pub commands_of : Result (List (Command Term) × Supply) Unaccepted → List (Command Term)
commands_of (Ok r) = r.0
commands_of (Err e) = []

-- the commands of an accepted text
abbrev pub read_as : List ℕ → List (Command Term)
read_as b = commands_of (script b)

abbrev pub supply_of : Result (List (Command Term) × Supply) Unaccepted → Option Supply
supply_of (Ok r) = Some r.1
supply_of (Err e) = None

-- the texts of asserted forms
abbrev pub texts_of : List Asserted → List (List ℕ)
texts_of as_forms = map (λ a. form_text a.form) as_forms

abbrev pub symbol_named : Name → List Sort → Sort → Symbol
symbol_named n args to = record { name = n; args = args; result = to }

abbrev pub constant_named : Name → Sort → Symbol
constant_named n to = symbol_named n [] to

abbrev pub variable_named : Name → Sort → Variable
variable_named n to = record { name = n; sort = to }

abbrev pub whole : ℤ → Term
whole n = apply (op (Whole n)) none

abbrev pub bits : ℕ → ℕ → Term
bits width n = apply (op (Bits width n)) none

abbrev pub over_one : Op → Term → Term
over_one o s = apply (op o) (s ⨾ none)

abbrev pub over_two : Op → Term → Term → Term
over_two o s t = apply (op o) (s ⨾ t ⨾ none)

abbrev pub over_three : Op → Term → Term → Term → Term
over_three o s t u = apply (op o) (s ⨾ t ⨾ u ⨾ none)

abbrev pub call : Symbol → Term → Term
call f t = apply (symbol f) (t ⨾ none)
