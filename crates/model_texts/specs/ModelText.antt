-- The model that a text gives: SMT-LIB 2.6, section 4.2.6 (`get-model` answers with definitions), with further entries for
-- the elements of free sorts and for `div` and `mod` by zero.
use Rattle.std.specs.Prelude.{ℕ, if◌then◌else◌, List, [], ◌∷◌, map, length, codes, Result, Ok, Err, Option, Some, None, unwrap_or}
use Rattle.std.specs.List.{list_any}
use Rattle.smt_lex.specs.Lex.{Fault, line_at}
use Rattle.smt_lex.specs.Forms.{atom, node, Forms, none, ◌⨾◌, forms}
use Rattle.smt_terms.specs.Equal.{name_eq, symbol_eq}
use Rattle.smt_terms.specs.Models.{Row, Graph, NumberRow, NumberGraph, Model}
use Rattle.smt_terms.specs.Operators.{first_value}
use Rattle.smt_terms.specs.Sorts.{Name, Sort, int, Symbol}
use Rattle.smt_terms.specs.Values.{Sizes, number}
use Rattle.script_read.specs.Commands.{Signature}
use Rattle.script_terms.specs.Parts.{place_of, word_in, is_name}
use Rattle.script_terms.specs.Refusals.{and_then}
use Rattle.script_read.specs.Script.{fault_place}
use Rattle.models.specs.GraphRows.{default_graph}
use Rattle.model_texts.specs.Refusals.{Refused, model_form, at, Unmodelled, unread, refused}
use Rattle.model_texts.specs.Reading.{sizes}
use Rattle.model_texts.specs.Tables.{first_rows}
use Rattle.model_texts.specs.Entries.{division_table, modulus_table, Given, entries_given}

-- ---- the model of what is given

abbrev pub graph_named : List Given → Name → Option Graph
graph_named [] n = None
graph_named (g ∷ gs) n = if name_eq g.name n then Some g.graph else graph_named gs n

abbrev pub with_first_rows : List Sort → Sizes → Graph → Graph
with_first_rows args sizes g = record { rows = first_rows args sizes g.rows; otherwise = g.otherwise }

-- the table of a symbol
abbrev pub table_of : List Given → Sizes → Symbol → Graph
table_of gs sizes f = with_first_rows f.args sizes (unwrap_or (graph_named gs f.name) (default_graph f.result))

abbrev pub number_row : Row → NumberRow
number_row r = record { key = number (first_value r.keys); result = number r.result }

abbrev pub number_graph : Graph → NumberGraph
number_graph g = record { rows = map number_row g.rows; otherwise = number g.otherwise }

abbrev pub number_table : List Given → Sizes → Name → NumberGraph
number_table gs sizes n = number_graph (with_first_rows (int ∷ []) sizes (unwrap_or (graph_named gs n) (default_graph int)))

abbrev pub model_over : Signature → List Given → Sizes → Model
model_over sig gs sizes = record {
  sizes = sizes;
  graphs = λ f. if list_any (symbol_eq f) sig.symbols then Some (table_of gs sizes f) else None;
  div_by_zero = number_table gs sizes division_table;
  mod_by_zero = number_table gs sizes modulus_table;
}

-- ---- the parts of a text: a word `sat` or none, and one list of a word `model` or none and the entries

abbrev pub without_word : List ℕ → Forms → Forms
without_word w none = none
without_word w (f ⨾ fs) = if is_name w (word_in f) then fs else f ⨾ fs

-- the entries, and what stands behind the list; the text ends at this place
abbrev pub parts : ℕ → Forms → Result (Forms × Forms) Refused
parts end none = at model_form end
parts end (atom t ⨾ fs) = at model_form t.start
parts end (node place es ⨾ fs) = Ok (without_word (codes "model") es, fs)

-- nothing may stand behind the list
abbrev pub nothing_behind : {A : Type 0} → Forms → A → Result A Refused
nothing_behind none a = Ok a
nothing_behind (f ⨾ fs) a = at model_form (place_of f)

abbrev pub model_of_entries : Signature → Forms × Forms → Result Model Refused
model_of_entries sig p =
    and_then (λ r. nothing_behind p.1 (model_over sig r.0 (sizes r.1))) (entries_given sig [] p.0 [])

abbrev pub model_in : Signature → ℕ → Forms → Result Model Refused
model_in sig end fs = and_then (model_of_entries sig) (parts end (without_word (codes "sat") fs))

-- ---- texts

abbrev pub with_line : List ℕ → Result Model Refused → Result Model Unmodelled
with_line bytes (Ok m) = Ok m
with_line bytes (Err r) = Err (refused (record { cause = r.cause; line = line_at bytes r.place; byte = r.place }))

abbrev pub model_from : List ℕ → Signature → Result Forms Fault → Result Model Unmodelled
model_from bytes sig (Err f) = Err (unread f (line_at bytes (fault_place f)))
model_from bytes sig (Ok fs) = with_line bytes (model_in sig (length bytes) fs)

-- the model over a signature that a text gives, or its first refusal
abbrev pub model_of : List ℕ → Signature → Result Model Unmodelled
model_of bytes sig = model_from bytes sig (forms bytes)
