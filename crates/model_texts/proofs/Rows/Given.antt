-- Signatures and tables for rows.
use Rattle.std.specs.Prelude.{ℕ, List, [], ◌∷◌, ◌++◌, map, Result, Ok, Option, Some}
use Rattle.smt_lex.specs.Lexicon.{line_feed}
use Rattle.smt_terms.specs.Sorts.{Name, Sort, Symbol}
use Rattle.script_read.specs.Commands.{Signature}
use Rattle.script_terms.specs.Refusals.{mapped}
use Rattle.script_read.specs.Script.{fault_of}
use Rattle.model_texts.specs.Refusals.{Cause, Unmodelled, refused}
use Rattle.model_texts.specs.ModelText.{model_of}
use Rattle.model_texts.specs.ModelLines.{model_lines}

abbrev pub constant_named : Name → Sort → Symbol
constant_named name sort = record { name = name; args = []; result = sort }

abbrev pub function_named : Name → List Sort → Sort → Symbol
function_named name args to = record { name = name; args = args; result = to }

abbrev pub symbols_alone : List Symbol → Signature
symbols_alone fs = record { sorts = []; symbols = fs }

-- the text that is printed for what was read
abbrev pub again : Signature → List ℕ → Result (List ℕ) Unmodelled
again sig bytes = mapped (λ m. model_lines m sig) (model_of bytes sig)

abbrev pub lines_from : List (List ℕ) → List ℕ
lines_from [] = []
lines_from (l ∷ ls) = l ++ line_feed ∷ lines_from ls

abbrev pub read_as : List (List ℕ) → Result (List ℕ) Unmodelled
read_as ls = Ok (lines_from ls)

-- ---- refusals

abbrev pub Cases : Type 0
Cases = List (List ℕ × Option Unmodelled)

-- a cause at a line and a byte
abbrev pub refusal : Cause → ℕ → ℕ → Option Unmodelled
refusal cause line byte = Some (refused (record { cause = cause; line = line; byte = byte }))

abbrev pub found : Signature → Cases → List (Option Unmodelled)
found sig cases = map (λ c. fault_of (model_of c.0 sig)) cases

abbrev pub wanted : Cases → List (Option Unmodelled)
wanted cases = map (λ c. c.1) cases
