-- Symbols that nothing binds, and symbols by their numbers, as the code has them.
use Rattle.std.specs.Prelude.{◌≡◌, ℕ, Bool, ◌==◌, List, Result, Ok, Err}
use Rattle.std.specs.List.{list_any}
use Rattle.smt_terms.specs.declared.ids.SymId.{SymId}
use Rattle.smt_terms.specs.Connectives.{truth_term}
use Rattle.smt_terms.specs.Term.{Term}
use Rattle.script_terms.specs.declared.causes.Cause.{Cause}
use Rattle.script_terms.specs.Refusals.{Refused, at}

-- the answer is the truth value, or the cause of the refusal at any place
abbrev pub GivesTruth : (ℕ → Result Term Refused) → Result Bool Cause → Type 0
GivesTruth read (Ok b) = (place : ℕ) → read place ≡ Ok (truth_term b)
GivesTruth read (Err cause) = (place : ℕ) → read place ≡ at cause place

abbrev pub has_symbol : List SymId → SymId → Bool
has_symbol gs f = list_any (λ g. f.0 == g.0) gs
