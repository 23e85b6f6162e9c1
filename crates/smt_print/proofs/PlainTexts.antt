-- Symbols that are printed as their names are.
use Rattle.std.proofs.Common.{◌≡◌, ℕ, ◌⊎◌, inl, inr, Bool, true, false, List, [], ◌∷◌, ◌++◌, length, get_or, refl, sym, subst, arith, length-append}
use Rattle.std.specs.Prelude.{if◌then◌else◌}
use Rattle.smt_lex.specs.Lexicon.{bar}
use Rattle.smt_lex.specs.Names.{Name, is_simple, printed_symbol}
use Rattle.term_table.specs.Formulas.{Formulas, no_symbol}
use Rattle.smt_print.specs.PlainNames.{ArePlain}

-- with bars a symbol is longer than its name
pub simple-by-length : (name : Name) → length (printed_symbol name) ≡ length name → is_simple name ≡ true
simple-by-length name same = by (is_simple name) refl same
  where
    by : (b : Bool) → is_simple name ≡ b → length (if b then name else bar ∷ name ++ bar ∷ []) ≡ length name → is_simple name ≡ true
    by true e long = e
    by false e long = let more = length-append name (bar ∷ []) in absurd (omega (arith, long, more))

-- one more is said to be simple
pub plain-learned : (t : Formulas) (old new : List Bool) (place : ℕ) → ArePlain t old → is_simple (get_or t.symbols place no_symbol).name ≡ true
    → ((i : ℕ) → get_or new i false ≡ true → (i ≡ place) ⊎ (get_or old i false ≡ true)) → ArePlain t new
plain-learned t old new place known simple each i is = elim (each i is) [
  | inl here ↦ subst (λ (j : ℕ). is_simple (get_or t.symbols j no_symbol).name ≡ true) (sym here) simple
  | inr before ↦ known i before
]
