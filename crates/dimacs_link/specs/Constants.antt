-- Lists of constants by their numbers in a table, each with its number in the list.
use Rattle.std.specs.Prelude.{◌≡◌, ℕ, ◌==◌, Bool, true, not, ◌&&◌, List, [], ◌∷◌, map, All, Option, Some, None, if◌then◌else◌}
use Rattle.smt_terms.specs.declared.ids.SymId.{SymId}
use Rattle.smt_terms.specs.Free.{is_among}
use Rattle.smt_terms.specs.Sorts.{Symbol}
use Rattle.term_table.specs.Formulas.{Formulas, symbol_at, IsSymbol}
use Rattle.dimacs_link.specs.Clauses.{number_from}

abbrev pub constants_at : Formulas → List SymId → List Symbol
constants_at t fs = map (symbol_at t) fs

abbrev pub are_distinct : List Symbol → Bool
are_distinct [] = true
are_distinct (f ∷ fs) = not (is_among fs f) && are_distinct fs

-- different symbols of the table
pub record AreConstants (t : Formulas) (fs : List SymId) : Type 0 where
  pub symbols : All (IsSymbol t) fs
  pub distinct : are_distinct (constants_at t fs) ≡ true

-- ---- numbers, by the symbols that have them

abbrev pub Numbered : Type 0
Numbered = List (SymId × ℕ)

-- the number of a symbol, the first one
abbrev pub number_in : Numbered → SymId → Option ℕ
number_in [] f = None
number_in (p ∷ ps) f = if f.0 == p.0.0 then Some p.1 else number_in ps f

-- the symbol with this number, in the place of the one that it had, or last where it had none
abbrev pub with_number : Numbered → SymId → ℕ → Numbered
with_number [] f n = (f, n) ∷ []
with_number (p ∷ ps) f n = if f.0 == p.0.0 then (p.0, n) ∷ ps else p ∷ with_number ps f n

-- the numbers are those of these constants
abbrev pub AreNumbersOf : Formulas → List Symbol → Numbered → Type 0
AreNumbersOf t cs ns = (f : SymId) → IsSymbol t f → number_in ns f ≡ number_from 1 cs (symbol_at t f)
