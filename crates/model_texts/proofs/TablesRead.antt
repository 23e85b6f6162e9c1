-- The tables of a model's text: they are read, their names are distinct, and each is found by its name.
use Rattle.std.proofs.Common.{◌≡◌, ℕ, suc, inl, inr, Bool, true, false, not, ◌&&◌, ◌||◌, if◌then◌else◌, Option, Some, None, List, [], ◌∷◌, ◌++◌, map, refl, ap, sym, ◌∙◌}
use Rattle.std.specs.Prelude.{unwrap_or}
use Rattle.std.specs.List.{list_any, list_all}
use Rattle.std.proofs.lemmas.List.{map-append}
use Rattle.smt_lex.specs.Names.{is_among}
use Rattle.smt_terms.specs.Equal.{name_eq, symbol_eq}
use Rattle.smt_terms.specs.Free.{names_of}
use Rattle.smt_terms.specs.Models.{Row, Graph, NumberRow, NumberGraph, Model, distinct_rows, distinct_number_rows, rows_allowed, is_graph}
use Rattle.smt_terms.specs.Rank.{is_sort}
use Rattle.smt_terms.specs.Sorts.{Name, Sort, int, Symbol}
use Rattle.smt_terms.specs.Val.{within_range}
use Rattle.smt_terms.specs.Values.{Value, Sizes, is_value, are_values}
use Rattle.smt_terms.proofs.Equal.{name_itself, names_differ, symbol_itself, Decides-symbol_eq}
use Rattle.smt_terms.proofs.Tests.{true_or_false, both_true, and_true, both_false, or_false, not_true, left_true, right_true, contrary}
use Rattle.script_read.specs.Commands.{Signature}
use Rattle.models.specs.GraphRows.{default_graph}
use Rattle.model_texts.specs.Laws.{has_writable_names, is_writable_sort, is_writable_symbol, is_readable, is_readable_row, is_readable_graph, is_readable_table}
use Rattle.model_texts.specs.Proper.{is_table_name, are_distinct}
use Rattle.model_texts.specs.Entries.{division_table, modulus_table, table_symbol, symbol_named, symbol_among}
use Rattle.model_texts.specs.ModelText.{graph_named}
use Rattle.model_texts.specs.ModelLines.{parameters, symbol_entry, row_of, graph_of, is_there, table_entries}
use Rattle.model_texts.proofs.BodiesRead.{AreKeys, RowsRead, condition_read}
use Rattle.model_texts.proofs.EntriesRead.{Table, table_form, given_by, table_names, AreRead}
use Rattle.model_texts.proofs.FirstRows.{distinct_numbers}
use Rattle.model_texts.proofs.FunctionsRead.{IsRead}
use Rattle.model_texts.proofs.ValuesRead.{value_read}

-- ---- functions that are read

module _ (sizes : Sizes) where
  keys_are : (ss : List Sort) (i : ℕ) (vs : List Value) → list_all is_writable_sort ss ≡ true → are_values ss sizes vs ≡ true → list_all is_readable vs ≡ true → AreKeys sizes (parameters i ss) vs
  keys_are [] i [] sorts valid readable = tt
  keys_are [] i (v ∷ vs) sorts valid readable = absurd cc
  keys_are (s ∷ ss) i [] sorts valid readable = absurd cc
  keys_are (s ∷ ss) i (v ∷ vs) sorts valid readable =
      let a = both_true (is_writable_sort s) (list_all is_writable_sort ss) sorts in
      let b = both_true (is_value s sizes v) (are_values ss sizes vs) valid in
      let c = both_true (is_readable v) (list_all is_readable vs) readable in
      (value_read sizes s v (both_true (is_sort s) (has_writable_names s) a.0).0 b.0 c.0, keys_are ss (suc i) vs a.1 b.1 c.1)

  abbrev is_valid_row : List Sort → Sort → Row → Bool
  is_valid_row ss to r = are_values ss sizes r.keys && is_value to sizes r.result

  rows_are : (s : Sort) (ss : List Sort) (to : Sort) (rows : List Row) → list_all is_writable_sort (s ∷ ss) ≡ true → is_sort to ≡ true
      → list_all (is_valid_row (s ∷ ss) to) rows ≡ true → list_all is_readable_row rows ≡ true → RowsRead sizes (parameters 0 (s ∷ ss)) to rows
  rows_are s ss to [] sorts sort valid readable = tt
  rows_are s ss to (r ∷ rows) sorts sort valid readable =
      let a = both_true (is_valid_row (s ∷ ss) to r) (list_all (is_valid_row (s ∷ ss) to) rows) valid in
      let b = both_true (are_values (s ∷ ss) sizes r.keys) (is_value to sizes r.result) a.0 in
      let c = both_true (is_readable_row r) (list_all is_readable_row rows) readable in
      let d = both_true (list_all is_readable r.keys) (is_readable r.result) c.0 in (
        record {
          keys = λ p. condition_read sizes s ss r.keys p (keys_are (s ∷ ss) 0 r.keys sorts b.0 d.0);
          result = value_read sizes to r.result sort b.1 d.1;
        },
        rows_are s ss to rows sorts sort a.1 c.1,
      )

  allowed_rows : (ss : List Sort) (to : Sort) (rows : List Row) → list_all is_writable_sort ss ≡ true → is_sort to ≡ true
      → list_all (is_valid_row ss to) rows ≡ true → list_all is_readable_row rows ≡ true → rows_allowed ss rows ≡ true → RowsRead sizes (parameters 0 ss) to rows
  allowed_rows [] to [] sorts sort valid readable allowed = tt
  allowed_rows [] to (r ∷ rows) sorts sort valid readable allowed = absurd cc
  allowed_rows (s ∷ ss) to rows sorts sort valid readable allowed = rows_are s ss to rows sorts sort valid readable

  pub function_is : (f : Symbol) (g : Graph) → list_all is_writable_sort (f.result ∷ f.args) ≡ true → is_graph f sizes g ≡ true → is_readable_graph g ≡ true → IsRead sizes f g
  function_is f g sorts valid readable =
      let a = both_true (is_writable_sort f.result) (list_all is_writable_sort f.args) sorts in
      let sort = (both_true (is_sort f.result) (has_writable_names f.result) a.0).0 in
      let b = both_true (is_value f.result sizes g.otherwise) (list_all (is_valid_row f.args f.result) g.rows && (distinct_rows f.args sizes g.rows && rows_allowed f.args g.rows)) valid in
      let c = both_true (list_all (is_valid_row f.args f.result) g.rows) (distinct_rows f.args sizes g.rows && rows_allowed f.args g.rows) b.1 in
      let d = both_true (distinct_rows f.args sizes g.rows) (rows_allowed f.args g.rows) c.1 in
      let e = both_true (list_all is_readable_row g.rows) (is_readable g.otherwise) readable in
      record { rows = allowed_rows f.args f.result g.rows a.1 sort c.0 e.0 d.1; otherwise = value_read sizes f.result g.otherwise sort b.0 e.1 }

-- ---- the tables of `div` and `mod` by zero

abbrev is_number_row : NumberRow → Bool
is_number_row r = within_range r.key && within_range r.result

number_rows_valid : (sizes : Sizes) (rows : List NumberRow) → list_all (λ (r : Row). are_values (int ∷ []) sizes r.keys && is_value int sizes r.result) (map row_of rows) ≡ true
number_rows_valid sizes [] = refl
number_rows_valid sizes (r ∷ rows) = number_rows_valid sizes rows

number_rows_readable : (rows : List NumberRow) → list_all is_number_row rows ≡ true → list_all is_readable_row (map row_of rows) ≡ true
number_rows_readable [] readable = refl
number_rows_readable (r ∷ rows) readable =
    let a = both_true (is_number_row r) (list_all is_number_row rows) readable in
    let b = both_true (within_range r.key) (within_range r.result) a.0 in
    and_true (is_readable_row (row_of r)) (list_all is_readable_row (map row_of rows))
    (and_true (within_range r.key && true) (within_range r.result) (and_true (within_range r.key) true b.0 refl) b.1) (number_rows_readable rows a.1)

some_allowed : (s : Sort) (ss : List Sort) (rows : List Row) → rows_allowed (s ∷ ss) rows ≡ true
some_allowed s ss [] = refl
some_allowed s ss (r ∷ rows) = refl

table_is : (sizes : Sizes) (n : Name) (g : NumberGraph) → distinct_number_rows g.rows ≡ true → is_readable_table g ≡ true → IsRead sizes (table_symbol n) (graph_of g)
table_is sizes n g distinct readable =
    let a = both_true (list_all is_number_row g.rows) (within_range g.otherwise) readable in
    let valid = number_rows_valid sizes g.rows in
    let valid_graph = and_true (list_all (λ (r : Row). are_values (int ∷ []) sizes r.keys && is_value int sizes r.result) (map row_of g.rows)) (distinct_rows (int ∷ []) sizes (map row_of g.rows) && rows_allowed (int ∷ []) (map row_of g.rows)) valid
    (and_true (distinct_rows (int ∷ []) sizes (map row_of g.rows)) (rows_allowed (int ∷ []) (map row_of g.rows)) (distinct_numbers sizes g.rows distinct) (some_allowed int [] (map row_of g.rows))) in
    function_is sizes (table_symbol n) (graph_of g) refl valid_graph
    (and_true (list_all is_readable_row (map row_of g.rows)) (within_range g.otherwise) (number_rows_readable g.rows a.0) a.1)

-- ---- all tables of a model

abbrev pub symbol_table : Model → Symbol → Table
symbol_table m f = (f, unwrap_or (m.graphs f) (default_graph f.result))

abbrev pub where_there : Bool → Table → List Table
where_there b t = if b then t ∷ [] else []

abbrev pub zero_table : Name → NumberGraph → Table
zero_table n g = (table_symbol n, graph_of g)

-- those of the symbols, and the two others where they are printed
abbrev pub zero_tables : Model → List Table
zero_tables m = where_there (is_there m.div_by_zero m.div_by_zero.rows) (zero_table division_table m.div_by_zero) ++ where_there (is_there m.mod_by_zero m.mod_by_zero.rows) (zero_table modulus_table m.mod_by_zero)

abbrev pub tables : Model → List Symbol → List Table
tables m fs = map (symbol_table m) fs ++ zero_tables m

where_form : (b : Bool) (t : Table) → (if b then table_form t ∷ [] else []) ≡ map table_form (where_there b t)
where_form true t = refl
where_form false t = refl

pub table_forms : (m : Model) (fs : List Symbol) → map (symbol_entry m) fs ++ (table_entries division_table m.div_by_zero ++ table_entries modulus_table m.mod_by_zero) ≡ map table_form (tables m fs)
table_forms m [] =
    let b = is_there m.div_by_zero m.div_by_zero.rows in
    let c = is_there m.mod_by_zero m.mod_by_zero.rows in
    let d = zero_table division_table m.div_by_zero in
    let e = zero_table modulus_table m.mod_by_zero in
    ap (λ xs. xs ++ table_entries modulus_table m.mod_by_zero) (where_form b d)
    ∙ ap (λ ys. map table_form (where_there b d) ++ ys) (where_form c e)
    ∙ sym (map-append table_form (where_there b d) (where_there c e))
table_forms m (f ∷ fs) = ap (λ xs. symbol_entry m f ∷ xs) (table_forms m fs)

-- ---- names

names_are : (m : Model) (fs : List Symbol) → table_names (map (symbol_table m) fs) ≡ names_of fs
names_are m [] = refl
names_are m (f ∷ fs) = ap (λ ns. f.name ∷ ns) (names_are m fs)

-- a symbol's name is none of the two tables'
pub record IsApart (n : Name) : Type 0 where
  pub division : name_eq n division_table ≡ false
  pub modulus : name_eq n modulus_table ≡ false

apart : (n : Name) → is_table_name n ≡ false → IsApart n
apart n other = let parts = both_false (name_eq n division_table) (name_eq n modulus_table) other in record { division = parts.0; modulus = parts.1 }

pub symbol_apart : (f : Symbol) → is_writable_symbol f ≡ true → IsApart f.name
symbol_apart f writable = apart f.name (not_true (is_table_name f.name) (both_true (not (is_table_name f.name)) (list_all is_writable_sort (f.result ∷ f.args)) (both_true _ _ writable).1).0)

not_zero : (b c : Bool) (d e : NumberGraph) (n : Name) → IsApart n → is_among (table_names (where_there b (zero_table division_table d) ++ where_there c (zero_table modulus_table e))) n ≡ false
not_zero true true d e n is = or_false (name_eq n division_table) (name_eq n modulus_table || false) is.division (or_false (name_eq n modulus_table) false is.modulus refl)
not_zero true false d e n is = or_false (name_eq n division_table) false is.division refl
not_zero false true d e n is = or_false (name_eq n modulus_table) false is.modulus refl
not_zero false false d e n is = refl

zeros_distinct : (b c : Bool) (d e : NumberGraph) → are_distinct (table_names (where_there b (zero_table division_table d) ++ where_there c (zero_table modulus_table e))) ≡ true
zeros_distinct true true d e = refl
zeros_distinct true false d e = refl
zeros_distinct false true d e = refl
zeros_distinct false false d e = refl

among_both : (ts us : List Table) (n : Name) → is_among (table_names ts) n ≡ false → is_among (table_names us) n ≡ false → is_among (table_names (ts ++ us)) n ≡ false
among_both [] us n first second = second
among_both (t ∷ ts) us n first second =
    let parts = both_false (name_eq n t.0.name) (is_among (table_names ts) n) first in
    or_false (name_eq n t.0.name) (is_among (table_names (ts ++ us)) n) parts.0 (among_both ts us n parts.1 second)

pub names_distinct : (m : Model) (fs : List Symbol) → list_all is_writable_symbol fs ≡ true → are_distinct (names_of fs) ≡ true → are_distinct (table_names (tables m fs)) ≡ true
names_distinct m [] writable distinct =
    zeros_distinct (is_there m.div_by_zero m.div_by_zero.rows) (is_there m.mod_by_zero m.mod_by_zero.rows) m.div_by_zero m.mod_by_zero
names_distinct m (f ∷ fs) writable distinct =
    let a = both_true (is_writable_symbol f) (list_all is_writable_symbol fs) writable in
    let b = both_true (not (is_among (names_of fs) f.name)) (are_distinct (names_of fs)) distinct in
    let zero = not_zero (is_there m.div_by_zero m.div_by_zero.rows) (is_there m.mod_by_zero m.mod_by_zero.rows) m.div_by_zero m.mod_by_zero f.name (symbol_apart f a.0) in
    let other : is_among (table_names (map (symbol_table m) fs)) f.name ≡ false = ap (λ ns. is_among ns f.name) (names_are m fs) ∙ not_true (is_among (names_of fs) f.name) b.0 in
    and_true (not (is_among (table_names (tables m fs)) f.name)) (are_distinct (table_names (tables m fs)))
    (ap not (among_both (map (symbol_table m) fs) (zero_tables m) f.name other zero)) (names_distinct m fs a.1 b.1)

-- ---- symbols and tables by their names

other_way : (m n : Name) → name_eq m n ≡ false → name_eq n m ≡ false
other_way m n other = names_differ n m (λ same. contrary (name_eq m n) (ap (name_eq m) same ∙ name_itself m) other)

-- each of these is found among all of them
abbrev AreFound : List Symbol → List Symbol → Type 0
AreFound all [] = Unit {0}
AreFound all (f ∷ fs) = (symbol_among all f.name ≡ Some f) × AreFound all fs

found_behind : (f : Symbol) (all fs : List Symbol) → is_among (names_of fs) f.name ≡ false → AreFound all fs → AreFound (f ∷ all) fs
found_behind f all [] other are = tt
found_behind f all (g ∷ fs) other are =
    let parts = both_false (name_eq f.name g.name) (is_among (names_of fs) f.name) other in
    (rw parts.0 are.0, found_behind f all fs parts.1 are.1)

all_found : (fs : List Symbol) → are_distinct (names_of fs) ≡ true → AreFound fs fs
all_found [] distinct = tt
all_found (f ∷ fs) distinct =
    let parts = both_true (not (is_among (names_of fs) f.name)) (are_distinct (names_of fs)) distinct in
    (rw (name_itself f.name) refl, found_behind f fs fs (not_true (is_among (names_of fs) f.name) parts.0) (all_found fs parts.1))

symbol_is_named : (sig : Signature) (f : Symbol) → IsApart f.name → symbol_among sig.symbols f.name ≡ Some f → symbol_named sig f.name ≡ Some f
symbol_is_named sig f is found = rw (is.division, is.modulus) found

read_behind : (sizes : Sizes) (sig : Signature) (ts us : List Table) → AreRead sizes sig ts → AreRead sizes sig us → AreRead sizes sig (ts ++ us)
read_behind sizes sig [] us first second = second
read_behind sizes sig (t ∷ ts) us first second = (first.0, first.1, read_behind sizes sig ts us first.2 second)

pub symbols_read : (sizes : Sizes) (sig : Signature) (m : Model) (fs : List Symbol) → list_all is_writable_symbol fs ≡ true → AreFound sig.symbols fs
    → ((f : Symbol) → list_any (symbol_eq f) fs ≡ true → IsRead sizes f (symbol_table m f).1) → AreRead sizes sig (map (symbol_table m) fs)
symbols_read sizes sig m [] writable found is = tt
symbols_read sizes sig m (f ∷ fs) writable found is =
    let a = both_true (is_writable_symbol f) (list_all is_writable_symbol fs) writable in (
      symbol_is_named sig f (symbol_apart f a.0) found.0,
      is f (left_true (symbol_eq f f) (list_any (symbol_eq f) fs) (symbol_itself f)),
      symbols_read sizes sig m fs a.1 found.1 (λ g there. is g (right_true (symbol_eq g f) (list_any (symbol_eq g) fs) there)),
    )

zeros_read : (sizes : Sizes) (sig : Signature) (b c : Bool) (d e : NumberGraph) → distinct_number_rows d.rows ≡ true → is_readable_table d ≡ true → distinct_number_rows e.rows ≡ true → is_readable_table e ≡ true
    → AreRead sizes sig (where_there b (zero_table division_table d) ++ where_there c (zero_table modulus_table e))
zeros_read sizes sig true true d e first readable second also = (refl, table_is sizes division_table d first readable, (refl, table_is sizes modulus_table e second also, tt))
zeros_read sizes sig true false d e first readable second also = (refl, table_is sizes division_table d first readable, tt)
zeros_read sizes sig false true d e first readable second also = (refl, table_is sizes modulus_table e second also, tt)
zeros_read sizes sig false false d e first readable second also = tt

-- ---- tables by their names

-- the table of a symbol
pub symbol_graph : (m : Model) (fs : List Symbol) (us : List Table) (f : Symbol) → are_distinct (names_of fs) ≡ true → list_any (symbol_eq f) fs ≡ true
    → graph_named (map given_by (map (symbol_table m) fs ++ us)) f.name ≡ Some (symbol_table m f).1
symbol_graph m [] us f distinct there = absurd cc
symbol_graph m (g ∷ fs) us f distinct there =
    let parts = both_true (not (is_among (names_of fs) g.name)) (are_distinct (names_of fs)) distinct in
    elim (true_or_false (symbol_eq f g)) [
      | inl same ↦
          let is : f ≡ g = (Decides-symbol_eq f g).0 same in
          let here : name_eq g.name f.name ≡ true = ap (λ f. name_eq g.name f.name) is ∙ name_itself g.name in
          rw here (ap (λ f. Some (symbol_table m f).1) (sym is))
      | inr other ↦
          let behind : list_any (symbol_eq f) fs ≡ true = rw other at there in
          let here : name_eq g.name f.name ≡ false = names_differ g.name f.name (λ same.
          contrary (is_among (names_of fs) g.name) (ap (is_among (names_of fs)) same ∙ is_named fs behind) (not_true (is_among (names_of fs) g.name) parts.0)) in
          rw here (symbol_graph m fs us f parts.1 behind)
    ]
  where
    is_named : (fs : List Symbol) → list_any (symbol_eq f) fs ≡ true → is_among (names_of fs) f.name ≡ true
    is_named [] there = absurd cc
    is_named (h ∷ fs) there = elim (true_or_false (symbol_eq f h)) [
      | inl same ↦ left_true (name_eq f.name h.name) (is_among (names_of fs) f.name) (ap (λ (h : Symbol). name_eq f.name h.name) (sym ((Decides-symbol_eq f h).0 same)) ∙ name_itself f.name)
      | inr other ↦ right_true (name_eq f.name h.name) (is_among (names_of fs) f.name) (is_named fs (let behind : list_any (symbol_eq f) fs ≡ true = rw other at there in behind))
    ]

-- behind the tables of others
behind_symbols : (m : Model) (fs : List Symbol) (us : List Table) (n : Name) → is_among (names_of fs) n ≡ false → graph_named (map given_by (map (symbol_table m) fs ++ us)) n ≡ graph_named (map given_by us) n
behind_symbols m [] us n other = refl
behind_symbols m (f ∷ fs) us n other =
    let parts = both_false (name_eq n f.name) (is_among (names_of fs) n) other in
    rw (other_way n f.name parts.0) (behind_symbols m fs us n parts.1)

no_symbol : (fs : List Symbol) (n : Name) → list_all is_writable_symbol fs ≡ true → ((f : Symbol) → IsApart f.name → name_eq f.name n ≡ false) → is_among (names_of fs) n ≡ false
no_symbol [] n writable other = refl
no_symbol (f ∷ fs) n writable other =
    let a = both_true (is_writable_symbol f) (list_all is_writable_symbol fs) writable in
    or_false (name_eq n f.name) (is_among (names_of fs) n) (other_way f.name n (other f (symbol_apart f a.0))) (no_symbol fs n a.1 other)

abbrev pub found_where : Bool → NumberGraph → Option Graph
found_where b g = if b then Some (graph_of g) else None

division_found : (b c : Bool) (d e : NumberGraph) → graph_named (map given_by (where_there b (zero_table division_table d) ++ where_there c (zero_table modulus_table e))) division_table ≡ found_where b d
division_found true c d e = refl
division_found false true d e = refl
division_found false false d e = refl

modulus_found : (b c : Bool) (d e : NumberGraph) → graph_named (map given_by (where_there b (zero_table division_table d) ++ where_there c (zero_table modulus_table e))) modulus_table ≡ found_where c e
modulus_found true true d e = refl
modulus_found true false d e = refl
modulus_found false true d e = refl
modulus_found false false d e = refl

module _ (m : Model) (fs : List Symbol) (writable : list_all is_writable_symbol fs ≡ true) where
  pub division_graph : graph_named (map given_by (tables m fs)) division_table ≡ found_where (is_there m.div_by_zero m.div_by_zero.rows) m.div_by_zero
  division_graph =
      behind_symbols m fs (zero_tables m) division_table (no_symbol fs division_table writable (λ f is. is.division))
      ∙ division_found (is_there m.div_by_zero m.div_by_zero.rows) (is_there m.mod_by_zero m.mod_by_zero.rows) m.div_by_zero m.mod_by_zero

  pub modulus_graph : graph_named (map given_by (tables m fs)) modulus_table ≡ found_where (is_there m.mod_by_zero m.mod_by_zero.rows) m.mod_by_zero
  modulus_graph =
      behind_symbols m fs (zero_tables m) modulus_table (no_symbol fs modulus_table writable (λ f is. is.modulus))
      ∙ modulus_found (is_there m.div_by_zero m.div_by_zero.rows) (is_there m.mod_by_zero m.mod_by_zero.rows) m.div_by_zero m.mod_by_zero

-- ---- all tables are read

pub all_read : (sizes : Sizes) (sig : Signature) (m : Model) → list_all is_writable_symbol sig.symbols ≡ true → are_distinct (names_of sig.symbols) ≡ true
    → ((f : Symbol) → list_any (symbol_eq f) sig.symbols ≡ true → IsRead sizes f (symbol_table m f).1)
    → distinct_number_rows m.div_by_zero.rows ≡ true → is_readable_table m.div_by_zero ≡ true → distinct_number_rows m.mod_by_zero.rows ≡ true → is_readable_table m.mod_by_zero ≡ true
    → AreRead sizes sig (tables m sig.symbols)
all_read sizes sig m writable distinct is first readable second also =
    read_behind sizes sig (map (symbol_table m) sig.symbols) (zero_tables m) (symbols_read sizes sig m sig.symbols writable (all_found sig.symbols distinct) is)
    (zeros_read sizes sig (is_there m.div_by_zero m.div_by_zero.rows) (is_there m.mod_by_zero m.mod_by_zero.rows) m.div_by_zero m.mod_by_zero first readable second also)
