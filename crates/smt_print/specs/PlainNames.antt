-- Symbols that are printed as their names are: SMT-LIB 2.6, section 3.1, simple symbols.
use Rattle.std.specs.Prelude.{◌≡◌, ℕ, Bool, true, false, List, get_or}
use Rattle.smt_lex.specs.Names.{is_simple}
use Rattle.term_table.specs.Formulas.{Formulas, no_symbol}

-- the symbols of which it is said are simple
abbrev pub ArePlain : Formulas → List Bool → Type 0
ArePlain t plain = (i : ℕ) → get_or plain i false ≡ true → is_simple (get_or t.symbols i no_symbol).name ≡ true
