-- A table that a text gives is taken into a model row by row: what each row is, and what the rows so far make of the model.
use Rattle.std.proofs.Common.{◌≡◌, ◌∙◌, sym, ap, subst, refl, ℕ, zero, suc, ◌+◌, ◌<◌, Bool, true, false, ◌&&◌, List, [], ◌∷◌, ◌++◌, length, get_or, take, All, Some, cond, true≢false, arith}
use Rattle.std.specs.Prelude.{IsSome, is_some}
use Rattle.std.specs.List.{list_all}
use Rattle.std.proofs.lemmas.List.{length-append, map-append, take_more}
use Rattle.std.proofs.lemmas.List.Sums.{position_or_len_is}
use Rattle.smt_terms.specs.declared.ids.SymId.{SymId}
use Rattle.smt_terms.specs.Equal.{symbol_eq}
use Rattle.smt_terms.specs.Models.{Row, Graph, Model, NumberGraph, rows_allowed}
use Rattle.smt_terms.specs.Operators.{first_value}
use Rattle.smt_terms.specs.Sorts.{Sort, int, Symbol}
use Rattle.smt_terms.specs.Values as plain
use Rattle.smt_terms.specs.Values.{Sizes, number, is_value, are_values, truth, whole, bits, element, table}
use Rattle.smt_terms.proofs.Equal.{Decides-symbol_eq, symbol_itself}
use Rattle.smt_terms.proofs.Tests.{both_true, and_true}
use Rattle.smt_values.specs.Meaning.{meaning, IsHeld}
use Rattle.smt_values.specs.Valid.{IsValue}
use Rattle.smt_values.specs.declared.value.Value.{Value}
use Rattle.term_table.specs.Formulas.{Formulas, no_symbol, symbol_at, IsSymbol, IsTable}
use Rattle.models.specs.GraphRows.{meanings, AreValues}
use Rattle.models.specs.ModelView.{graph_in, symbol_number, graphs_by, with_graph, with_row_for}
use Rattle.models.specs.NumberRows.{number_row_added}
use Rattle.model_texts.specs.Entries.{table_symbol}
use Rattle.model_texts.specs.GivenFits.{row_fits, table_fits}
use Rattle.model_texts.specs.GivenTables.{row_given, rows_given, graph_given, IsHeldRow, IsHeldTable}
use Rattle.model_texts.specs.ModelText.{with_first_rows, number_graph}
use Rattle.model_texts.specs.declared.tables.GivenRow.{GivenRow}
use Rattle.model_texts.specs.declared.tables.GivenTable.{GivenTable}
use Rattle.model_texts.proofs.GivenModels.{row_more}
use Rattle.model_texts.proofs.RowsAdded.{first_rows_more, first_numbers_more}

-- ---- what stands in the middle of a list

middle : {X : Type 0} (xs ys : List X) (x d : X) → get_or (xs ++ x ∷ ys) (length xs) d ≡ x
middle [] ys x d = refl
middle (z ∷ xs) ys x d = middle xs ys x d

pub held_in_middle : {X : Type 0} (P : X → Type 0) (xs ys : List X) (x : X) → All P (xs ++ x ∷ ys) → P x
held_in_middle P xs ys x all = subst P (middle xs ys x x) (all (length xs) x (let n = length-append xs (x ∷ ys) in omega (arith, n)))

pub passes_in_middle : {X : Type 0} (test : X → Bool) (xs ys : List X) (x : X) → list_all test (xs ++ x ∷ ys) ≡ true → test x ≡ true
passes_in_middle test [] ys x h = (both_true (test x) (list_all test ys) h).0
passes_in_middle test (z ∷ xs) ys x h = passes_in_middle test xs ys x (both_true (test z) (list_all test (xs ++ x ∷ ys)) h).1

passes_before : {X : Type 0} (test : X → Bool) (xs ys : List X) → list_all test (xs ++ ys) ≡ true → list_all test xs ≡ true
passes_before test [] ys h = refl
passes_before test (z ∷ xs) ys h =
    let parts = both_true (test z) (list_all test (xs ++ ys)) h in
    and_true (test z) (list_all test xs) parts.0 (passes_before test xs ys parts.1)

split_at : {X : Type 0} (xs : List X) (i : ℕ) (d : X) → i < length xs → (rest : List X) × (take i xs ++ get_or xs i d ∷ rest ≡ xs)
split_at [] i d lt = absurd (omega (arith, lt))
split_at (x ∷ xs) zero d lt = (xs, refl)
split_at (x ∷ xs) (suc i) d lt = let r = split_at xs i d (omega (arith, lt)) in (r.0, ap (λ ys. x ∷ ys) r.1)

-- ---- a row of a table that fits a symbol

module _ (f : Symbol) (counts : Sizes) (g : GivenTable) (held : IsHeldTable g) (fits : table_fits f counts (graph_given g) ≡ true)
    (xs rest : List GivenRow) (r : GivenRow) (are : xs ++ r ∷ rest ≡ g.rows.items) where
  rows_are : rows_given g.rows.items ≡ rows_given xs ++ row_given r ∷ rows_given rest
  rows_are = ap rows_given (sym are) ∙ map-append row_given xs (r ∷ rest)

  fit : (list_all (row_fits f counts) (rows_given g.rows.items) && rows_allowed f.args (rows_given g.rows.items)) ≡ true
  fit = (both_true (is_value f.result counts (meaning g.otherwise)) (list_all (row_fits f counts) (rows_given g.rows.items) && rows_allowed f.args (rows_given g.rows.items)) fits).1

  all_fit : list_all (row_fits f counts) (rows_given g.rows.items) ≡ true
  all_fit = (both_true (list_all (row_fits f counts) (rows_given g.rows.items)) (rows_allowed f.args (rows_given g.rows.items)) fit).0

  this_fits : row_fits f counts (row_given r) ≡ true
  this_fits = passes_in_middle (row_fits f counts) (rows_given xs) (rows_given rest) (row_given r) (ap (list_all (row_fits f counts)) (sym rows_are) ∙ all_fit)

  row_held : IsHeldRow r
  row_held = held_in_middle IsHeldRow xs rest r (subst (All IsHeldRow) (sym are) held.rows)

  pub row_keys : AreValues f.args counts r.keys.items
  row_keys = record { held = row_held.0; valid = (both_true (are_values f.args counts (meanings r.keys.items)) (is_value f.result counts (meaning r.value)) this_fits).0 }

  pub row_value : IsValue f.result counts r.value
  row_value = record { held = row_held.1; valid = (both_true (are_values f.args counts (meanings r.keys.items)) (is_value f.result counts (meaning r.value)) this_fits).1 }

  pub row_has_arguments : 0 < length f.args
  row_has_arguments = by f.args (rows_given xs) (ap (rows_allowed f.args) (sym rows_are) ∙ (both_true (list_all (row_fits f counts) (rows_given g.rows.items)) (rows_allowed f.args (rows_given g.rows.items)) fit).1)
    where
      by : (ss : List Sort) (qs : List Row) → rows_allowed ss (qs ++ row_given r ∷ rows_given rest) ≡ true → 0 < length ss
      by (s ∷ ss) qs h = omega arith
      by [] [] h = absurd (true≢false (sym h))
      by [] (q ∷ qs) h = absurd (true≢false (sym h))

-- ---- the model with the rows so far

module _ (f : Symbol) (m : Model) (otherwise : plain.Value) where
  abbrev pub with_rows : List GivenRow → Model
  with_rows xs = with_graph f (Some (with_first_rows f.args m.sizes record { rows = rows_given xs; otherwise = otherwise })) m

  pub row_taken : (xs : List GivenRow) (r : GivenRow) → with_row_for f (meanings r.keys.items) (meaning r.value) (with_rows xs) ≡ with_rows (xs ++ r ∷ [])
  row_taken xs r =
      row_more f m (meanings r.keys.items) (meaning r.value) (with_first_rows f.args m.sizes record { rows = rows_given xs; otherwise = otherwise })
      ∙ ap (λ (g : Graph). with_graph f (Some g) m)
      (sym (first_rows_more f.args m.sizes (rows_given xs) (row_given r) otherwise)
      ∙ ap (λ (qs : List Row). with_first_rows f.args m.sizes record { rows = qs; otherwise = otherwise }) (sym (map-append row_given xs (r ∷ []))))

  -- the symbol has a function
  pub has_rows : (n : Model) (xs : List GivenRow) → n ≡ with_rows xs → IsSome (n.graphs f)
  has_rows n xs is =
      ap (λ (k : Model). is_some (k.graphs f)) is
      ∙ by (symbol_itself f)
    where
      by : {b : Bool} → b ≡ true → is_some (cond b (Some (with_first_rows f.args m.sizes record { rows = rows_given xs; otherwise = otherwise })) (m.graphs f)) ≡ true
      by {b} e = ap (λ c. is_some (cond c (Some (with_first_rows f.args m.sizes record { rows = rows_given xs; otherwise = otherwise })) (m.graphs f))) e

-- the table has each symbol under one number
module _ (t : Formulas) (is_table : IsTable t) (s : SymId) (within : IsSymbol t s) where
  number_itself : symbol_number t.symbols (symbol_at t s) ≡ s
  number_itself =
      ap (λ n. record { 0 = n })
      (position_or_len_is (symbol_eq (symbol_at t s)) t.symbols s.0 no_symbol (omega (arith, within))
      (λ k less. by k less (symbol_eq (symbol_at t s) (get_or t.symbols k no_symbol)) refl)
      (λ _. symbol_itself (symbol_at t s)))
    where
      by : (k : ℕ) → k < s.0 → (b : Bool) → symbol_eq (symbol_at t s) (get_or t.symbols k no_symbol) ≡ b → symbol_eq (symbol_at t s) (get_or t.symbols k no_symbol) ≡ false
      by k less true h =
          let same : s.0 ≡ k = is_table.one_symbol s.0 k within (omega (arith, within, less)) ((Decides-symbol_eq (symbol_at t s) (get_or t.symbols k no_symbol)).0 h) in
          absurd (omega (arith, same, less))
      by k less false h = h

  pub graph_of_symbol : (es : List (SymId × Graph)) → graphs_by t.symbols es (symbol_at t s) ≡ graph_in es s
  unfolding graphs_by
  graph_of_symbol es = ap (graph_in es) number_itself

-- ---- tables of whole numbers

-- whether a value is a whole number says nothing of sizes
pub int_everywhere : (v : plain.Value) (a b : Sizes) → is_value int a v ≡ is_value int b v
int_everywhere (truth _) a b = refl
int_everywhere (whole _) a b = refl
int_everywhere (bits _) a b = refl
int_everywhere (element _) a b = refl
int_everywhere (table _ _) a b = refl

key_everywhere : (vs : List plain.Value) (a b : Sizes) → are_values (int ∷ []) a vs ≡ are_values (int ∷ []) b vs
key_everywhere [] a b = refl
key_everywhere (v ∷ []) a b = ap (λ t. t && true) (int_everywhere v a b)
key_everywhere (v ∷ w ∷ vs) a b = ap (λ t. t && false) (int_everywhere v a b)

rows_everywhere : (rs : List Row) (a b : Sizes) → list_all (row_fits (table_symbol []) a) rs ≡ list_all (row_fits (table_symbol []) b) rs
rows_everywhere [] a b = refl
rows_everywhere (r ∷ rs) a b = λ i. (key_everywhere r.keys a b i && int_everywhere r.result a b i) && rows_everywhere rs a b i

pub numbers_everywhere : (g : Graph) (a b : Sizes) → table_fits (table_symbol []) a g ≡ table_fits (table_symbol []) b g
numbers_everywhere g a b = λ i. int_everywhere g.otherwise a b i && (rows_everywhere g.rows a b i && rows_allowed (int ∷ []) g.rows)

keys_are_numbers : (rs : List Row) (a b : Sizes) → list_all (row_fits (table_symbol []) a) rs ≡ true → list_all (λ r. are_values (int ∷ []) b r.keys) rs ≡ true
keys_are_numbers [] a b h = refl
keys_are_numbers (r ∷ rs) a b h =
    let parts = both_true (row_fits (table_symbol []) a r) (list_all (row_fits (table_symbol []) a) rs) h in
    and_true (are_values (int ∷ []) b r.keys) (list_all (λ q. are_values (int ∷ []) b q.keys) rs)
    (key_everywhere r.keys b a ∙ (both_true (are_values (int ∷ []) a r.keys) (is_value int a r.result) parts.0).0) (keys_are_numbers rs a b parts.1)

one_key : (vs : List Value) (a : Sizes) → are_values (int ∷ []) a (meanings vs) ≡ true → 0 < length vs
one_key [] a h = absurd (true≢false (sym h))
one_key (v ∷ vs) a h = omega arith

first_is : (vs : List Value) (a : Sizes) (d : Value) → are_values (int ∷ []) a (meanings vs) ≡ true → (is_value int a (meaning (get_or vs 0 d)) ≡ true) × (first_value (meanings vs) ≡ meaning (get_or vs 0 d))
first_is [] a d h = absurd (true≢false (sym h))
first_is (v ∷ vs) a d h = ((both_true (is_value int a (meaning v)) (are_values [] a (meanings vs)) h).0, refl)

module _ (g : GivenTable) (held : IsHeldTable g) (fits : table_fits (table_symbol []) (λ _. 1) (graph_given g) ≡ true) where
  parts : (is_value int (λ _. 1) (meaning g.otherwise) ≡ true) × (list_all (row_fits (table_symbol []) (λ _. 1)) (rows_given g.rows.items) ≡ true)
  parts =
      let two = both_true (is_value int (λ _. 1) (meaning g.otherwise)) (list_all (row_fits (table_symbol []) (λ _. 1)) (rows_given g.rows.items) && rows_allowed (int ∷ []) (rows_given g.rows.items)) fits in
      (two.0, (both_true (list_all (row_fits (table_symbol []) (λ _. 1)) (rows_given g.rows.items)) (rows_allowed (int ∷ []) (rows_given g.rows.items)) two.1).0)

  pub otherwise_is_number : is_value int (λ _. 1) (meaning g.otherwise) ≡ true
  otherwise_is_number = parts.0

  -- the row at a place
  module _ (i : ℕ) (d : GivenRow) (lt : i < length g.rows.items) where
    abbrev row : GivenRow
    row = get_or g.rows.items i d

    split : (rest : List GivenRow) × (take i g.rows.items ++ row ∷ rest ≡ g.rows.items)
    split = split_at g.rows.items i d lt

    rows_split : rows_given (take i g.rows.items) ++ row_given row ∷ rows_given split.0 ≡ rows_given g.rows.items
    rows_split = sym (map-append row_given (take i g.rows.items) (row ∷ split.0)) ∙ ap rows_given split.1

    fits_here : (are_values (int ∷ []) (λ _. 1) (meanings row.keys.items) ≡ true) × (is_value int (λ _. 1) (meaning row.value) ≡ true)
    fits_here =
        both_true (are_values (int ∷ []) (λ _. 1) (meanings row.keys.items)) (is_value int (λ _. 1) (meaning row.value))
        (passes_in_middle (row_fits (table_symbol []) (λ _. 1)) (rows_given (take i g.rows.items)) (rows_given split.0) (row_given row) (ap (list_all (row_fits (table_symbol []) (λ _. 1))) rows_split ∙ parts.1))

    held_here : IsHeldRow row
    held_here = held.rows i d lt

    pub key_there : 0 < length row.keys.items
    key_there = one_key row.keys.items (λ _. 1) fits_here.0

    pub key_held : (e : Value) → IsHeld (get_or row.keys.items 0 e)
    key_held e = held_here.0 0 e key_there

    pub key_is_number : (e : Value) → is_value int (λ _. 1) (meaning (get_or row.keys.items 0 e)) ≡ true
    key_is_number e = (first_is row.keys.items (λ _. 1) e fits_here.0).0

    pub result_held : IsHeld row.value
    result_held = held_here.1

    pub result_is_number : is_value int (λ _. 1) (meaning row.value) ≡ true
    result_is_number = fits_here.1

    abbrev numbers_before : Sizes → ℕ → NumberGraph
    numbers_before counts n = number_graph (with_first_rows (int ∷ []) counts record { rows = rows_given (take n g.rows.items); otherwise = meaning g.otherwise })

    before_fit : (counts : Sizes) → list_all (λ (r : Row). are_values (int ∷ []) counts r.keys) (rows_given (take i g.rows.items)) ≡ true
    before_fit counts =
        keys_are_numbers (rows_given (take i g.rows.items)) (λ _. 1) counts
        (passes_before (row_fits (table_symbol []) (λ _. 1)) (rows_given (take i g.rows.items)) (row_given row ∷ rows_given split.0) (ap (list_all (row_fits (table_symbol []) (λ _. 1))) rows_split ∙ parts.1))

    pub number_taken : (counts : Sizes) (e : Value) → number_row_added (number (meaning (get_or row.keys.items 0 e))) (number (meaning row.value)) (numbers_before counts i) ≡ numbers_before counts (i + 1)
    number_taken counts e =
        ap (λ v. number_row_added (number v) (number (meaning row.value)) (numbers_before counts i)) (sym (first_is row.keys.items (λ _. 1) e fits_here.0).1)
        ∙ sym (first_numbers_more counts (rows_given (take i g.rows.items)) (row_given row) (meaning g.otherwise) (before_fit counts) (key_everywhere (meanings row.keys.items) counts (λ _. 1) ∙ fits_here.0))
        ∙ ap (λ (qs : List Row). number_graph (with_first_rows (int ∷ []) counts record { rows = qs; otherwise = meaning g.otherwise }))
        (sym (map-append row_given (take i g.rows.items) (row ∷ [])) ∙ ap rows_given (sym (take_more g.rows.items i d lt)))
