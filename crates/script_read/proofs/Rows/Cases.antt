-- Texts with why they aren't accepted, if they aren't.
use Rattle.std.specs.Prelude.{ℕ, List, map, Option, Some}
use Rattle.script_terms.specs.declared.causes.Cause.{Cause}
use Rattle.script_terms.specs.Refusals.{Unaccepted, refused}
use Rattle.script_read.specs.Script.{fault}

abbrev pub Cases : Type 0
Cases = List (List ℕ × Option Unaccepted)

-- a cause at a command, a line and a byte
abbrev pub refusal : Cause → ℕ → ℕ → ℕ → Option Unaccepted
refusal cause command line byte = Some (refused (record { cause = cause; command = command; line = line; byte = byte }))

abbrev pub found : Cases → List (Option Unaccepted)
found cases = map (λ c. fault c.0) cases

abbrev pub wanted : Cases → List (Option Unaccepted)
wanted cases = map (λ c. c.1) cases
