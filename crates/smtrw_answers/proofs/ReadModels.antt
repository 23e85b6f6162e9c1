-- A model that was read from a text over a signature is one over it.
use Rattle.std.proofs.Common.{◌≡◌, ◌∙◌, sym, ap, subst, refl, ◌<◌, max, Bool, true, false, not, if◌then◌else◌, ◌&&◌, ◌||◌, List, [], ◌∷◌, map, length, filter, Some, None, inl, inr, arith}
use Rattle.std.specs.Prelude.{IfSome, is_some, unwrap_or}
use Rattle.std.specs.List.{list_any, list_all}
use Rattle.std.specs.Ordering.{int_eq}
use Rattle.smt_lex.specs.Names.{is_among}
use Rattle.smt_terms.specs.Equal.{name_eq, symbol_eq}
use Rattle.smt_terms.specs.Models.{Row, Graph, Model, distinct_rows, distinct_number_rows, rows_allowed, is_graph, IsModelOver}
use Rattle.smt_terms.specs.Operators.{first_value}
use Rattle.smt_terms.specs.Sorts.{Name, Sort, int, Symbol}
use Rattle.smt_terms.specs.Values.{Value, Sizes, number, same, all_same, is_value, are_values}
use Rattle.smt_terms.proofs.Equal.{name_same, Decides-symbol_eq}
use Rattle.smt_terms.proofs.Tests.{both_true, and_true, both_false, or_false, either_true, not_true, contrary}
use Rattle.smt_terms.proofs.Valid.{is_value-default}
use Rattle.script_read.specs.Commands.{Signature}
use Rattle.models.specs.GraphRows.{default_graph}
use Rattle.model_texts.specs.Entries.{division_table, modulus_table, table_symbol, symbol_among, symbol_named, Given}
use Rattle.model_texts.specs.GivenFits.{row_fits, table_fits, fits_symbol, given_fits, are_elements_of, has_sorts, AreFit}
use Rattle.model_texts.specs.ModelText.{graph_named, with_first_rows, table_of, number_row, number_table, model_over}
use Rattle.model_texts.specs.Proper.{is_table_name, IsProper}
use Rattle.model_texts.specs.Reading.{Element, names_in, sizes}
use Rattle.model_texts.specs.Tables.{rows_behind, first_rows}
use Rattle.model_texts.proofs.EntriesFit.{entries_fit, nothing_fits}
use Rattle.model_texts.proofs.GivenModels.{first_of_name}
use Rattle.model_texts.proofs.RowsAdded.{first_rows_all}
use Rattle.model_texts.proofs.ValuesFit.{values_fit}
use Rattle.smtrw_answers.proofs.ReadableTexts.{IsReadFrom}

-- ---- first rows have distinct keys

module _ (args : List Sort) (counts : Sizes) where
  abbrev has_keys : Row → Row → Bool
  has_keys q r = all_same args counts q.keys r.keys

  -- an earlier row has none of their keys
  none_again : (q : Row) (earlier rows : List Row) → ((r : Row) → list_any (λ p. has_keys p r) earlier ≡ false → has_keys q r ≡ false) → list_any (has_keys q) (rows_behind args counts earlier rows) ≡ false
  none_again q earlier [] apart = refl
  none_again q earlier (r ∷ rows) apart =
      by (list_any (λ p. has_keys p r) earlier) refl (none_again q earlier rows apart)
      (none_again q (r ∷ earlier) rows (λ s h. apart s (both_false (has_keys r s) (list_any (λ p. has_keys p s) earlier) h).1))
    where
      by : (b : Bool) → list_any (λ p. has_keys p r) earlier ≡ b → list_any (has_keys q) (rows_behind args counts earlier rows) ≡ false → list_any (has_keys q) (rows_behind args counts (r ∷ earlier) rows) ≡ false
          → list_any (has_keys q) (if b then rows_behind args counts earlier rows else r ∷ rows_behind args counts (r ∷ earlier) rows) ≡ false
      by true e same more = same
      by false e same more = or_false (has_keys q r) (list_any (has_keys q) (rows_behind args counts (r ∷ earlier) rows)) (apart r e) more

  behind_distinct : (earlier rows : List Row) → distinct_rows args counts (rows_behind args counts earlier rows) ≡ true
  behind_distinct earlier [] = refl
  behind_distinct earlier (r ∷ rows) =
      by (list_any (λ p. has_keys p r) earlier) (behind_distinct earlier rows) (behind_distinct (r ∷ earlier) rows)
      (none_again r (r ∷ earlier) rows (λ s h. (both_false (has_keys r s) (list_any (λ p. has_keys p s) earlier) h).0))
    where
      by : (b : Bool) → distinct_rows args counts (rows_behind args counts earlier rows) ≡ true → distinct_rows args counts (rows_behind args counts (r ∷ earlier) rows) ≡ true
          → list_any (has_keys r) (rows_behind args counts (r ∷ earlier) rows) ≡ false
          → distinct_rows args counts (if b then rows_behind args counts earlier rows else r ∷ rows_behind args counts (r ∷ earlier) rows) ≡ true
      by true same more apart = same
      by false same more apart = and_true (not (list_any (has_keys r) (rows_behind args counts (r ∷ earlier) rows))) (distinct_rows args counts (rows_behind args counts (r ∷ earlier) rows)) (ap not apart) more

  allowed_behind : (earlier rows : List Row) → rows_allowed args rows ≡ true → rows_allowed args (rows_behind args counts earlier rows) ≡ true
  allowed_behind earlier rows h = by args rows (rows_behind args counts earlier rows) (none_behind rows) h
    where
      none_behind : (rows : List Row) → rows ≡ [] → rows_behind args counts earlier rows ≡ []
      none_behind rows e = ap (rows_behind args counts earlier) e

      by : (ss : List Sort) (rs qs : List Row) → (rs ≡ [] → qs ≡ []) → rows_allowed ss rs ≡ true → rows_allowed ss qs ≡ true
      by [] [] qs none h = ap (rows_allowed []) (none refl)
      by [] (r ∷ rs) qs none h = absurd cc
      by (s ∷ ss) rs [] none h = refl
      by (s ∷ ss) rs (q ∷ qs) none h = refl

-- ---- a table that fits a symbol is a function of it

module _ (f : Symbol) (counts : Sizes) (some : (n : Name) → 0 < counts n) where
  default_fits : table_fits f counts (default_graph f.result) ≡ true
  default_fits =
      and_true (is_value f.result counts _) (true && rows_allowed f.args []) (is_value-default f.result counts some) (none_allowed f.args)
    where
      none_allowed : (ss : List Sort) → rows_allowed ss [] ≡ true
      none_allowed [] = refl
      none_allowed (s ∷ ss) = refl

  first_graph : (g : Graph) → table_fits f counts g ≡ true → is_graph f counts (with_first_rows f.args counts g) ≡ true
  first_graph g fits =
      let rows = first_rows f.args counts g.rows in
      let a = both_true (is_value f.result counts g.otherwise) (list_all (row_fits f counts) g.rows && rows_allowed f.args g.rows) fits in
      let b = both_true (list_all (row_fits f counts) g.rows) (rows_allowed f.args g.rows) a.1 in
      and_true (is_value f.result counts g.otherwise) (list_all (row_fits f counts) rows && (distinct_rows f.args counts rows && rows_allowed f.args rows)) a.0
      (and_true (list_all (row_fits f counts) rows) (distinct_rows f.args counts rows && rows_allowed f.args rows) (first_rows_all f.args counts (row_fits f counts) g.rows [] b.0)
      (and_true (distinct_rows f.args counts rows) (rows_allowed f.args rows) (behind_distinct f.args counts [] g.rows) (allowed_behind f.args counts [] g.rows b.1)))

-- ---- functions of whole numbers

abbrev has_number_key : Sizes → Row → Bool
has_number_key counts r = are_values (int ∷ []) counts r.keys

one_key : (counts : Sizes) (ks : List Value) → are_values (int ∷ []) counts ks ≡ true → ks ≡ first_value ks ∷ []
one_key counts [] h = absurd cc
one_key counts (k ∷ []) h = refl
one_key counts (k ∷ j ∷ ks) h = absurd (no (both_true (is_value int counts k) false h).1)
  where
    no : false ≡ true → ⊥
    no h = absurd cc

same_keys : (counts : Sizes) (r q : Row) → has_number_key counts r ≡ true → has_number_key counts q ≡ true → all_same (int ∷ []) counts r.keys q.keys ≡ int_eq (number (first_value r.keys)) (number (first_value q.keys))
same_keys counts r q h k =
    (λ i. all_same (int ∷ []) counts (one_key counts r.keys h i) (one_key counts q.keys k i)) ∙ with_true (int_eq (number (first_value r.keys)) (number (first_value q.keys)))
  where
    with_true : (b : Bool) → (b && true) ≡ b
    with_true true = refl
    with_true false = refl

no_key : (counts : Sizes) (r : Row) (rows : List Row) → has_number_key counts r ≡ true → list_all (has_number_key counts) rows ≡ true
    → list_any (λ q. int_eq (number (first_value r.keys)) q.key) (map number_row rows) ≡ list_any (λ (q : Row). all_same (int ∷ []) counts r.keys q.keys) rows
no_key counts r [] h all = refl
no_key counts r (q ∷ rows) h all =
    let a = both_true (has_number_key counts q) (list_all (has_number_key counts) rows) all in
    λ i. sym (same_keys counts r q h a.0) i || no_key counts r rows h a.1 i

numbers_distinct : (counts : Sizes) (rows : List Row) → list_all (has_number_key counts) rows ≡ true → distinct_rows (int ∷ []) counts rows ≡ true → distinct_number_rows (map number_row rows) ≡ true
numbers_distinct counts [] all distinct = refl
numbers_distinct counts (r ∷ rows) all distinct =
    let a = both_true (has_number_key counts r) (list_all (has_number_key counts) rows) all in
    let b = both_true (not (list_any (λ (q : Row). all_same (int ∷ []) counts r.keys q.keys) rows)) (distinct_rows (int ∷ []) counts rows) distinct in
    and_true (not (list_any (λ q. int_eq (number (first_value r.keys)) q.key) (map number_row rows))) (distinct_number_rows (map number_row rows))
    (ap not (no_key counts r rows a.0 a.1) ∙ b.0) (numbers_distinct counts rows a.1 b.1)

keys_fit : (f : Symbol) (counts : Sizes) (rows : List Row) → list_all (row_fits f counts) rows ≡ true → list_all (λ r. are_values f.args counts r.keys) rows ≡ true
keys_fit f counts [] all = refl
keys_fit f counts (r ∷ rows) all =
    let a = both_true (row_fits f counts r) (list_all (row_fits f counts) rows) all in
    and_true (are_values f.args counts r.keys) (list_all (λ q. are_values f.args counts q.keys) rows) (both_true (are_values f.args counts r.keys) (is_value f.result counts r.result) a.0).0 (keys_fit f counts rows a.1)

-- ---- the model of tables that fit

-- each table that is named is one of those that are given
named_fits : (sig : Signature) (counts : Sizes) (gs : List Given) (n : Name) (f : Symbol) → list_all (given_fits sig counts) gs ≡ true → symbol_named sig n ≡ Some f → ((m : Name) → 0 < counts m)
    → table_fits f counts (unwrap_or (graph_named gs n) (default_graph f.result)) ≡ true
named_fits sig counts [] n f all named some = default_fits f counts some
named_fits sig counts (g ∷ gs) n f all named some =
    let a = both_true (given_fits sig counts g) (list_all (given_fits sig counts) gs) all in
    by (name_eq g.name n) refl a.0 (named_fits sig counts gs n f a.1 named some)
  where
    by : (b : Bool) → name_eq g.name n ≡ b → given_fits sig counts g ≡ true → table_fits f counts (unwrap_or (graph_named gs n) (default_graph f.result)) ≡ true
        → table_fits f counts (unwrap_or (if b then Some g.graph else graph_named gs n) (default_graph f.result)) ≡ true
    by true e here rest = ap (fits_symbol counts g.graph) (sym (ap (symbol_named sig) (name_same g.name n e) ∙ named)) ∙ here
    by false e here rest = rest

none_met : (ns : List Name) (es : List Element) (s : Name) → are_elements_of ns es ≡ true → is_among ns s ≡ false → names_in es s ≡ []
none_met ns [] s live apart = refl
none_met ns (e ∷ es) s live apart =
    let a = both_true (is_among ns e.sort) (are_elements_of ns es) live in
    by (name_eq e.sort s) refl a.0 (none_met ns es s a.1 apart)
  where
    by : (b : Bool) → name_eq e.sort s ≡ b → is_among ns e.sort ≡ true → names_in es s ≡ []
        → map (λ (d : Element). d.name) (if b then e ∷ filter (λ d. name_eq d.sort s) es else filter (λ d. name_eq d.sort s) es) ≡ []
    by true same here rest = contrary (is_among ns s) (ap (is_among ns) (sym (name_same e.sort s same)) ∙ here) apart
    by false other here rest = rest

not_among : (ns : List Name) (s : Name) → list_any (name_eq s) ns ≡ false → is_among ns s ≡ false
not_among [] s h = refl
not_among (n ∷ ns) s h = let a = both_false (name_eq s n) (list_any (name_eq s) ns) h in or_false (name_eq s n) (is_among ns s) a.0 (not_among ns s a.1)

no_table_name : (fs : List Symbol) (h : Symbol) → list_all (λ f. not (is_table_name f.name)) fs ≡ true → list_any (symbol_eq h) fs ≡ true → is_table_name h.name ≡ false
no_table_name [] h apart is = absurd cc
no_table_name (f ∷ fs) h apart is =
    let a = both_true (not (is_table_name f.name)) (list_all (λ k. not (is_table_name k.name)) fs) apart in
    elim (either_true (symbol_eq h f) (list_any (symbol_eq h) fs) is) [
      | inl same ↦ ap (λ (k : Symbol). is_table_name k.name) ((Decides-symbol_eq h f).0 same) ∙ not_true (is_table_name f.name) a.0
      | inr later ↦ no_table_name fs h a.1 later
    ]

module _ (sig : Signature) (proper : IsProper sig) (gs : List Given) (es : List Element) (fit : AreFit sig es gs) where
  abbrev counts : Sizes
  counts = sizes es

  some : (n : Name) → 0 < sizes es n
  some n = omega arith

  all_fit : list_all (given_fits sig (sizes es)) gs ≡ true
  all_fit = fit.fit (sizes es) (λ n. omega arith)

  symbol_found : (f : Symbol) → list_any (symbol_eq f) sig.symbols ≡ true → symbol_named sig f.name ≡ Some f
  symbol_found f there =
      ap (λ b. if b then Some (table_symbol f.name) else symbol_among sig.symbols f.name) (no_table_name sig.symbols f proper.tables there) ∙ first_of_name sig.symbols f proper.names there

  graph_fits : (f : Symbol) → IfSome ((model_over sig gs (sizes es)).graphs f) (λ g. is_graph f (sizes es) g ≡ true)
  graph_fits f = by (list_any (symbol_eq f) sig.symbols) refl
    where
      by : (b : Bool) → list_any (symbol_eq f) sig.symbols ≡ b → IfSome (if b then Some (table_of gs (sizes es) f) else None) (λ g. is_graph f (sizes es) g ≡ true)
      by true there = first_graph f (sizes es) some (unwrap_or (graph_named gs f.name) (default_graph f.result)) (named_fits sig (sizes es) gs f.name f all_fit (symbol_found f there) some)
      by false there = tt

  graph_there : (f : Symbol) → is_some ((model_over sig gs (sizes es)).graphs f) ≡ list_any (symbol_eq f) sig.symbols
  graph_there f = by (list_any (symbol_eq f) sig.symbols)
    where
      by : (b : Bool) → is_some (if b then Some (table_of gs (sizes es) f) else None) ≡ b
      by true = refl
      by false = refl

  table_distinct : (n : Name) → symbol_named sig n ≡ Some (table_symbol n) → distinct_number_rows (number_table gs (sizes es) n).rows ≡ true
  table_distinct n named =
      let g = unwrap_or (graph_named gs n) (default_graph int) in
      let rows = first_rows (int ∷ []) (sizes es) g.rows in
      let fits : table_fits (table_symbol n) (sizes es) g ≡ true = named_fits sig (sizes es) gs n (table_symbol n) all_fit named some in
      let a = both_true (is_value int (sizes es) g.otherwise) (list_all (row_fits (table_symbol n) (sizes es)) g.rows && rows_allowed (int ∷ []) g.rows) fits in
      let b = both_true (list_all (row_fits (table_symbol n) (sizes es)) g.rows) (rows_allowed (int ∷ []) g.rows) a.1 in
      numbers_distinct (sizes es) rows
      (first_rows_all (int ∷ []) (sizes es) (has_number_key (sizes es)) g.rows [] (keys_fit (table_symbol n) (sizes es) g.rows b.0))
      (behind_distinct (int ∷ []) (sizes es) [] g.rows)

  one_element : (s : Name) → list_any (name_eq s) sig.sorts ≡ false → sizes es s ≡ 1
  one_element s apart =
      ap (λ (ns : List Name). max 1 (length ns)) (none_met sig.sorts es s fit.elements (not_among sig.sorts s apart))

  pub fitting_over : IsModelOver sig.sorts sig.symbols (model_over sig gs (sizes es))
  fitting_over = record {
    valid = record {
      sizes = some;
      graphs = graph_fits;
      div_by_zero = table_distinct division_table refl;
      mod_by_zero = table_distinct modulus_table refl;
    };
    graphs = graph_there;
    sizes = one_element;
  }

-- ---- texts

pub read_over : (sig : Signature) (m : Model) → IsProper sig → list_all has_sorts sig.symbols ≡ true → IsReadFrom sig m → IsModelOver sig.sorts sig.symbols m
read_over sig m proper fine is =
    let fit = entries_fit values_fit sig proper fine is.entries [] is.given [] is.met (nothing_fits values_fit sig proper fine) is.gave in
    subst (IsModelOver sig.sorts sig.symbols) is.model (fitting_over sig proper is.given is.met fit)
