-- Models: structures over a signature, SMT-LIB 2.6, sections 5.2 and 5.3, with finite sorts in place of the free ones.
-- A symbol's function is a table of rows with a value for all other arguments; `div` and `mod` by zero are such tables too.
use Rattle.std.specs.Prelude.{◌≡◌, ◌<◌, Bool, true, false, cond, not, ◌&&◌, List, [], ◌∷◌, ℤ, Option, Some, None, is_some, IfSome, IsTrue, IsFalse}
use Rattle.std.specs.List.{list_any, list_all}
use Rattle.std.specs.Ordering.{int_eq}
use Rattle.smt_terms.specs.Sorts.{Name, Sort, Symbol}
use Rattle.smt_terms.specs.Equal.{name_eq, symbol_eq}
use Rattle.smt_terms.specs.Values.{Value, Sizes, all_same, is_value, are_values, default_value}
use Rattle.smt_terms.specs.Operators.{Background}

pub record Row : Type 0 where
  pub keys : List Value
  pub result : Value

-- the function of a symbol
pub record Graph : Type 0 where
  pub rows : List Row
  pub otherwise : Value

pub record NumberRow : Type 0 where
  pub key : ℤ
  pub result : ℤ

-- a function of whole numbers
pub record NumberGraph : Type 0 where
  pub rows : List NumberRow
  pub otherwise : ℤ

-- the sizes of the free sorts, the symbols that have a value, and the results of `div` and `mod` by zero
pub record Model : Type 0 where
  pub sizes : Sizes
  pub graphs : Symbol → Option Graph
  pub div_by_zero : NumberGraph
  pub mod_by_zero : NumberGraph

-- ---- a function at arguments: the first row whose keys are the same counts

abbrev pub row_value : (Row → Bool) → List Row → Value → Value
row_value fits [] otherwise = otherwise
row_value fits (r ∷ rows) otherwise = cond (fits r) r.result (row_value fits rows otherwise)

abbrev pub graph_value : List Sort → Sizes → Graph → List Value → Value
graph_value args sizes g vs = row_value (λ r. all_same args sizes r.keys vs) g.rows g.otherwise

abbrev pub number_row_value : ℤ → List NumberRow → ℤ → ℤ
number_row_value n [] otherwise = otherwise
number_row_value n (r ∷ rows) otherwise = cond (int_eq r.key n) r.result (number_row_value n rows otherwise)

abbrev pub number_value : NumberGraph → ℤ → ℤ
number_value g n = number_row_value n g.rows g.otherwise

abbrev pub graph_or_default : Symbol → Sizes → Option Graph → List Value → Value
graph_or_default f sizes None vs = default_value f.result
graph_or_default f sizes (Some g) vs = graph_value f.args sizes g vs

-- a symbol at arguments; one that the model doesn't have is its sort's default
abbrev pub symbol_value : Model → Symbol → List Value → Value
symbol_value m f vs = graph_or_default f m.sizes (m.graphs f) vs

abbrev pub background : Model → Background
background m = record { sizes = m.sizes; div_by_zero = number_value m.div_by_zero; mod_by_zero = number_value m.mod_by_zero }

-- ---- valid models

-- no row has the keys of a later one
abbrev pub distinct_rows : List Sort → Sizes → List Row → Bool
distinct_rows args sizes [] = true
distinct_rows args sizes (r ∷ rows) = not (list_any (λ q. all_same args sizes r.keys q.keys) rows) && distinct_rows args sizes rows

abbrev pub distinct_number_rows : List NumberRow → Bool
distinct_number_rows [] = true
distinct_number_rows (r ∷ rows) = not (list_any (λ q. int_eq r.key q.key) rows) && distinct_number_rows rows

-- a symbol without arguments has no rows
abbrev pub rows_allowed : List Sort → List Row → Bool
rows_allowed args [] = true
rows_allowed [] (_ ∷ _) = false
rows_allowed (_ ∷ _) (_ ∷ _) = true

-- all values have their sorts
abbrev pub is_graph : Symbol → Sizes → Graph → Bool
is_graph f sizes g =
    is_value f.result sizes g.otherwise
    && (list_all (λ r. are_values f.args sizes r.keys && is_value f.result sizes r.result) g.rows
    && (distinct_rows f.args sizes g.rows && rows_allowed f.args g.rows))

pub record IsModel (m : Model) : Type 0 where
  pub sizes : (s : Name) → 0 < m.sizes s
  pub graphs : (f : Symbol) → IfSome (m.graphs f) (λ g. IsTrue (is_graph f m.sizes g))
  pub div_by_zero : IsTrue (distinct_number_rows m.div_by_zero.rows)
  pub mod_by_zero : IsTrue (distinct_number_rows m.mod_by_zero.rows)

-- a model over a signature has these symbols and no others, and one element in each sort that isn't among these
pub record IsModelOver (sorts : List Name) (symbols : List Symbol) (m : Model) : Type 0 where
  pub valid : IsModel m
  pub graphs : (f : Symbol) → is_some (m.graphs f) ≡ list_any (symbol_eq f) symbols
  pub sizes : (s : Name) → IsFalse (list_any (name_eq s) sorts) → m.sizes s ≡ 1
