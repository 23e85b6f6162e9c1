-- Models as they are printed: SMT-LIB 2.6, section 4.2.6, with `(@sort S ELEMENT ..)` for the elements of a free sort, and the
-- names `@div0` and `@mod0` for the tables of `div` and `mod` by zero.
use Rattle.std.specs.Prelude.{ℕ, zero, suc, Bool, true, not, if◌then◌else◌, List, [], ◌∷◌, ◌++◌, map, flat_map, codes, pos, unwrap_or}
use Rattle.std.specs.Ordering.{int_eq}
use Rattle.smt_lex.specs.Lexicon.{line_feed}
use Rattle.smt_lex.specs.Forms.{Form}
use Rattle.smt_terms.specs.BitVectors.{bv2nat}
use Rattle.smt_terms.specs.Models.{Row, Graph, NumberRow, NumberGraph, Model}
use Rattle.smt_terms.specs.Numeral.{numeral}
use Rattle.smt_terms.specs.Sorts.{Name, Sort, bool, int, bit_vector, array, free_sort, Symbol, Variable}
use Rattle.smt_terms.specs.Values.{Value, whole, Pairs, no_pairs, pair, Sizes, is_true, number, bits_of, element_of, default_of, pairs_of}
use Rattle.script_read.specs.Commands.{Signature}
use Rattle.smt_lex.specs.FormText.{form_text}
use Rattle.term_table.specs.WrittenForms.{list_form, word_form, symbol_form, truth_form, integer_form, vector_form, sort_form, constant_array_form, variable_form}
use Rattle.models.specs.GraphRows.{default_graph}
use Rattle.model_texts.specs.Entries.{division_table, modulus_table, table_symbol}

-- ---- values

-- `@`, the sort, `_` and the number
abbrev pub element_name : Name → ℕ → Name
element_name s i = 64 ∷ s ++ 95 ∷ numeral i

-- `(as @S_i S)`
abbrev pub element_form : Name → ℕ → Form
element_form s i = list_form (word_form (codes "as") ∷ symbol_form (element_name s i) ∷ symbol_form s ∷ [])

-- a `store` around the array for each pair, the first one innermost
abbrev pub stores_form : (Value → Form) → (Value → Form) → Pairs → Form → Form
stores_form key value no_pairs f = f
stores_form key value (pair k v ps) f =
    stores_form key value ps (list_form (word_form (codes "store") ∷ f ∷ key k ∷ value v ∷ []))

abbrev pub value_form : Sort → Value → Form
value_form bool v = truth_form (is_true v)
value_form int v = integer_form (number v)
value_form (bit_vector width) v = vector_form width (bv2nat (bits_of v))
value_form (free_sort s) v = element_form s (element_of v)
value_form (array i e) v =
    stores_form (value_form i) (value_form e) (pairs_of v)
    (list_form (constant_array_form (array i e) ∷ value_form e (default_of v) ∷ []))

-- ---- tables

-- `x!` and the number of the parameter
abbrev pub parameter_name : ℕ → Name
parameter_name i = codes "x!" ++ numeral i

-- parameters from number i on
abbrev pub parameters : ℕ → List Sort → List Variable
parameters i [] = []
parameters i (s ∷ ss) = record { name = parameter_name i; sort = s } ∷ parameters (suc i) ss

abbrev pub equation_forms : List Variable → List Value → List Form
equation_forms (x ∷ xs) (v ∷ vs) =
    list_form (word_form (codes "=") ∷ word_form x.name ∷ value_form x.sort v ∷ []) ∷ equation_forms xs vs
equation_forms _ _ = []

-- one equation stands alone
abbrev pub condition_form : List Form → Form
condition_form (f ∷ []) = f
condition_form fs = list_form (word_form (codes "and") ∷ fs)

abbrev pub rows_form : List Variable → Sort → List Row → Form → Form
rows_form xs to [] otherwise = otherwise
rows_form xs to (r ∷ rows) otherwise =
    list_form (word_form (codes "ite") ∷ condition_form (equation_forms xs r.keys) ∷ value_form to r.result ∷ rows_form xs to rows otherwise ∷ [])

-- ---- entries

abbrev pub function_form : Symbol → Graph → Form
function_form f g =
    let xs = parameters 0 f.args in
    list_form (word_form (codes "define-fun") ∷ symbol_form f.name ∷ list_form (map variable_form xs) ∷ sort_form f.result
    ∷ rows_form xs f.result g.rows (value_form f.result g.otherwise) ∷ [])

abbrev pub symbol_entry : Model → Symbol → Form
symbol_entry m f = function_form f (unwrap_or (m.graphs f) (default_graph f.result))

-- so many elements from number i on
abbrev pub elements_from : Name → ℕ → ℕ → List Form
elements_from s i zero = []
elements_from s i (suc more) = element_form s i ∷ elements_from s (suc i) more

abbrev pub sort_entry : Sizes → Name → Form
sort_entry sizes s = list_form (word_form (codes "@sort") ∷ symbol_form s ∷ elements_from s 0 (sizes s))

-- ---- the tables of `div` and `mod` by zero, where they have rows or aren't 0 elsewhere

abbrev pub row_of : NumberRow → Row
row_of r = record { keys = whole r.key ∷ []; result = whole r.result }

abbrev pub graph_of : NumberGraph → Graph
graph_of g = record { rows = map row_of g.rows; otherwise = whole g.otherwise }

abbrev pub is_there : NumberGraph → List NumberRow → Bool
is_there g [] = not (int_eq g.otherwise (pos 0))
is_there g (r ∷ rows) = true

abbrev pub table_entries : Name → NumberGraph → List Form
table_entries n g = if is_there g g.rows then function_form (table_symbol n) (graph_of g) ∷ [] else []

-- ---- texts

-- the live sorts, then the live symbols, then the tables, each in order
abbrev pub entry_forms : Model → Signature → List Form
entry_forms m sig =
    map (sort_entry m.sizes) sig.sorts ++ map (symbol_entry m) sig.symbols
    ++ table_entries division_table m.div_by_zero ++ table_entries modulus_table m.mod_by_zero

abbrev pub line_of : Form → List ℕ
line_of f = form_text f ++ line_feed ∷ []

-- the text of a model over a signature: each entry is a line, and so is each parenthesis around them
abbrev pub model_lines : Model → Signature → List ℕ
model_lines m sig = codes "(\n" ++ flat_map line_of (entry_forms m sig) ++ codes ")\n"
