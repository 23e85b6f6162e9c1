-- When the tables that a text gives are functions of the symbols of a signature.
use Rattle.std.specs.Prelude.{ℕ, ◌≤◌, Bool, true, false, not, ◌&&◌, List, [], ◌∷◌, map, Option, Some, None, IsTrue}
use Rattle.std.specs.List.{list_all}
use Rattle.smt_lex.specs.Names.{is_among}
use Rattle.smt_terms.specs.Models.{Row, Graph, rows_allowed}
use Rattle.smt_terms.specs.Rank.{is_sort}
use Rattle.smt_terms.specs.Sorts.{Name, Symbol}
use Rattle.smt_terms.specs.Values.{Sizes, is_value, are_values}
use Rattle.script_read.specs.Commands.{Signature}
use Rattle.model_texts.specs.Reading.{Element, sizes}
use Rattle.model_texts.specs.Entries.{Given, symbol_named}

abbrev pub row_fits : Symbol → Sizes → Row → Bool
row_fits f counts r = are_values f.args counts r.keys && is_value f.result counts r.result

-- keys and results are values of the symbol's sorts, and there are rows only where there are arguments
abbrev pub table_fits : Symbol → Sizes → Graph → Bool
table_fits f counts g = is_value f.result counts g.otherwise && (list_all (row_fits f counts) g.rows && rows_allowed f.args g.rows)

abbrev pub fits_symbol : Sizes → Graph → Option Symbol → Bool
fits_symbol counts g None = false
fits_symbol counts g (Some f) = table_fits f counts g

abbrev pub given_fits : Signature → Sizes → Given → Bool
given_fits sig counts g = fits_symbol counts g.graph (symbol_named sig g.name)

abbrev pub names_apart : List Given → Bool
names_apart [] = true
names_apart (g ∷ gs) = not (is_among (map (λ h. h.name) gs) g.name) && names_apart gs

-- each sort has at least the elements that were met
abbrev pub AtLeast : List Element → Sizes → Type 0
AtLeast es counts = (n : Name) → sizes es n ≤ counts n

-- elements of these sorts alone
abbrev pub are_elements_of : List Name → List Element → Bool
are_elements_of ns es = list_all (λ e. is_among ns e.sort) es

-- the sorts of a rank are sorts of the profile
abbrev pub has_sorts : Symbol → Bool
has_sorts f = is_sort f.result && list_all is_sort f.args

-- what is known of tables once all are read
pub record AreFit (sig : Signature) (es : List Element) (gs : List Given) : Type 0 where
  pub fit : (counts : Sizes) → AtLeast es counts → IsTrue (list_all (given_fits sig counts) gs)
  pub apart : IsTrue (names_apart gs)
  pub elements : IsTrue (are_elements_of sig.sorts es)
