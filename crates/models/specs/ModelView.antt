-- What a contract sees of a model: lists of sizes and of functions by the numbers of a table's sorts and symbols, and the
-- model that it is over a table. SMT-LIB 2.6, sections 5.2 and 5.3.
use Rattle.std.specs.Prelude.{◌≡◌, ℕ, ◌+◌, ◌<◌, ◌≤◌, ◌==◌, cond, if◌then◌else◌, List, [], ◌∷◌, length, pos, Option, Some, None, option_map, IsFalse, refl}
use Rattle.std.specs.Coded.{Coded, code_by, coded×, coded_ℕ, coded_list}
use Rattle.std.specs.List.{list_any, position_or_len}
use Rattle.smt_terms.specs.declared.ids.SortId.{SortId}
use Rattle.smt_terms.specs.declared.ids.SymId.{SymId}
use Rattle.smt_terms.specs.Equal.{name_eq, symbol_eq}
use Rattle.smt_terms.specs.Models.{Graph, NumberGraph, Model}
use Rattle.smt_terms.specs.Rank.{is_empty}
use Rattle.smt_terms.specs.Sorts.{Name, Symbol}
use Rattle.smt_terms.specs.Values.{Value, Sizes}
use Rattle.smt_values.specs.SizeTable.{size_at, sizes_by}
use Rattle.smt_values.specs.SortIds.{sort_at}
use Rattle.term_table.specs.Formulas.{Formulas}
use Rattle.script_read.specs.CommandLists.{free_name}
use Rattle.script_read.specs.Commands.{Signature}
use Rattle.models.specs.GraphRows.{row_added, default_graph}
use Rattle.models.specs.LiveNumbers.{coded_sort_id, coded_symbol_id}
use Rattle.models.specs.ModelCodes.{coded_graph, coded_number_graph}

pub record ModelLists : Type 0 where
  pub sizes : List (SortId × ℕ)
  pub graphs : List (SymId × Graph)
  pub div_by_zero : NumberGraph
  pub mod_by_zero : NumberGraph

abbrev pub coded_model_lists : Coded ModelLists
coded_model_lists =
    code_by (List (SortId × ℕ) × (List (SymId × Graph) × (NumberGraph × NumberGraph)))
    (coded× (coded_list (coded× coded_sort_id coded_ℕ)) (coded× (coded_list (coded× coded_symbol_id coded_graph)) (coded× coded_number_graph coded_number_graph)))
    (λ m. (m.sizes, (m.graphs, (m.div_by_zero, m.mod_by_zero)))) (λ p. record { sizes = p.0; graphs = p.1.0; div_by_zero = p.1.1.0; mod_by_zero = p.1.1.1 }) (λ _. refl)

-- ---- the model over a table

-- the function of a symbol, by its number
abbrev pub graph_in : List (SymId × Graph) → SymId → Option Graph
graph_in [] f = None
graph_in (e ∷ es) f = if f.0 == e.0.0 then Some e.1 else graph_in es f

-- the number of a symbol of the table
abbrev pub symbol_number : List Symbol → Symbol → SymId
symbol_number fs f = record { 0 = position_or_len (symbol_eq f) fs }

-- the function of each symbol
unfoldable pub graphs_by : List Symbol → List (SymId × Graph) → Symbol → Option Graph
graphs_by fs es f = graph_in es (symbol_number fs f)

abbrev pub model_at : Formulas → ModelLists → Model
model_at t m = record { sizes = sizes_by t.sorts m.sizes; graphs = graphs_by t.symbols m.graphs; div_by_zero = m.div_by_zero; mod_by_zero = m.mod_by_zero }

-- its numbers are those of the table: a sort that the table hasn't has size 1, and a symbol that it hasn't has no function
pub record IsModelOf (t : Formulas) (m : ModelLists) : Type 0 where
  pub sizes : (s : SortId) → 130 + length t.sorts ≤ s.0 → size_at m.sizes s ≡ 1
  pub graphs : (f : SymId) → length t.symbols ≤ f.0 → graph_in m.graphs f ≡ None

-- ---- models that are made of others

abbrev pub no_numbers : NumberGraph
no_numbers = record { rows = []; otherwise = pos 0 }

-- sizes of sorts that stand in the table and are declared, at least 1; a declared sort that isn't among these has size 1
pub record AreSizesOf (t : Formulas) (sorts : List SortId) (sizes : List (SortId × ℕ)) : Type 0 where
  pub positive : (s : SortId) → 0 < size_at sizes s
  pub table : (s : SortId) → 130 + length t.sorts ≤ s.0 → size_at sizes s ≡ 1
  pub others : (n : Name) → IsFalse (list_any (λ s. name_eq n (free_name (sort_at t.sorts s))) sorts) → sizes_by t.sorts sizes n ≡ 1

-- so many elements in each sort, the default everywhere for each symbol, and 0 for each division by zero
abbrev pub default_model_of : Sizes → Signature → Model
default_model_of sizes sig = record {
  sizes = sizes;
  graphs = λ f. if list_any (symbol_eq f) sig.symbols then Some (default_graph f.result) else None;
  div_by_zero = no_numbers;
  mod_by_zero = no_numbers;
}

abbrev pub default_model : Signature → Model
default_model sig = default_model_of (λ _. 1) sig

-- the model with this function for a symbol, or without the symbol
abbrev pub with_graph : Symbol → Option Graph → Model → Model
with_graph f g m = record { sizes = m.sizes; graphs = λ h. cond (symbol_eq h f) g (m.graphs h); div_by_zero = m.div_by_zero; mod_by_zero = m.mod_by_zero }

-- the model without the symbols that have arguments
abbrev pub without_functions : Model → Model
without_functions m = record { sizes = m.sizes; graphs = λ h. cond (is_empty h.args) (m.graphs h) None; div_by_zero = m.div_by_zero; mod_by_zero = m.mod_by_zero }

-- the model with a row more for a symbol, unless the symbol has one with the same keys
abbrev pub with_row_for : Symbol → List Value → Value → Model → Model
with_row_for f ks v m = with_graph f (option_map (row_added f.args m.sizes ks v) (m.graphs f)) m
