-- What is printed of a model reads back as the model.
use Rattle.std.proofs.Common.{◌≡◌, ℕ, zero, suc, ◌<◌, max, inl, inr, Bool, true, false, not, ◌&&◌, if◌then◌else◌, Option, Some, None, is_some, IfSome, Ok, List, [], ◌∷◌, ◌++◌, map, length, refl, ap, sym, ◌∙◌, subst, arith, append_assoc}
use Rattle.std.specs.Prelude.{ℤ, pos, unwrap_or, codes, IsTrue}
use Rattle.std.specs.List.{list_any, list_all}
use Rattle.std.specs.Ordering.{int_eq}
use Rattle.std.proofs.lemmas.Bool.Decides.{Decides-int_eq}
use Rattle.std.proofs.lemmas.List.{map-append}
use Rattle.smt_lex.specs.Names.{is_among, IsName}
use Rattle.smt_lex.specs.Forms.{Form, node, none, ◌⨾◌, forms}
use Rattle.smt_terms.specs.Equal.{symbol_eq}
use Rattle.smt_terms.specs.Free.{names_of}
use Rattle.smt_terms.specs.Models.{Graph, NumberRow, NumberGraph, Model, distinct_rows, distinct_number_rows, rows_allowed, is_graph}
use Rattle.smt_terms.specs.Sorts.{Name, Sort, int, Symbol}
use Rattle.smt_terms.specs.Values.{Sizes, is_value}
use Rattle.smt_terms.proofs.Tests.{true_or_false, both_true, either_true}
use Rattle.smt_terms.proofs.Equal.{Decides-symbol_eq}
use Rattle.script_terms.specs.Refusals.{and_then}
use Rattle.script_read.specs.Commands.{Signature}
use Rattle.script_read.specs.Printable.{is_writable}
use Rattle.models.specs.GraphRows.{default_graph}
use Rattle.model_texts.specs.Laws.{is_writable_sort, is_writable_symbol, is_readable_graph, IsTextable, ModelsReadBack}
use Rattle.model_texts.specs.Proper.{is_table_name, are_distinct}
use Rattle.model_texts.specs.Reading.{Element, names_in, sizes}
use Rattle.model_texts.specs.Entries.{Given, division_table, modulus_table, table_symbol, entries_given}
use Rattle.model_texts.specs.ModelText.{graph_named, with_first_rows, table_of, number_row, number_graph, number_table, model_over, without_word, nothing_behind, model_of_entries, with_line, model_from, model_of}
use Rattle.model_texts.specs.ModelLines.{sort_entry, symbol_entry, row_of, graph_of, is_there, table_entries, entry_forms, model_lines}
use Rattle.model_texts.proofs.EntriesRead.{Table, table_form, given_by, on_lines, AllPending, all_live, sorts_read, all_tables_read}
use Rattle.model_texts.proofs.FirstRows.{distinct_first, distinct_numbers}
use Rattle.model_texts.proofs.FunctionsRead.{IsRead}
use Rattle.model_texts.proofs.Knowing.{names_from, IsKnown, AllKnown, Gives}
use Rattle.model_texts.proofs.LinesRead.{AllWritten, list_text, list_read}
use Rattle.model_texts.proofs.TablesRead.{function_is, symbol_table, where_there, zero_table, zero_tables, tables, table_forms, names_distinct, found_where, symbol_graph, division_graph, modulus_graph, all_read}
use Rattle.model_texts.proofs.Written.{function_written, sort_entry_written}

-- ---- sizes

names_long : (s : Name) (first n : ℕ) → length (names_from s first n) ≡ n
names_long s first zero = refl
names_long s first (suc n) = ap suc (names_long s (suc first) n)

size_known : (given : Sizes) (es : List Element) (s : Name) → 0 < given s → IsKnown given es s → sizes es s ≡ given s
size_known given es s some known = elim known [
  | inl full ↦ let long : length (names_in es s) ≡ given s = ap length full ∙ names_long s 0 (given s) in ap (max 1) long ∙ omega (arith, some)
  | inr only ↦ ap (λ ns. max 1 (length ns)) only.0 ∙ sym only.1
]

sizes_known : (given : Sizes) (es : List Element) → ((s : Name) → 0 < given s) → AllKnown given es → sizes es ≡ given
sizes_known given es some known = λ j s. size_known given es s (some s) (known s) j

-- ---- graphs

kept_graph : (args : List Sort) (given : Sizes) (g : Graph) → distinct_rows args given g.rows ≡ true → with_first_rows args given g ≡ g
kept_graph args given g distinct = ap (λ rows. record { rows = rows; otherwise = g.otherwise }) (distinct_first args given g.rows distinct)

numbers_back : (rows : List NumberRow) → map number_row (map row_of rows) ≡ rows
numbers_back [] = refl
numbers_back (r ∷ rows) = ap (λ rs. r ∷ rs) (numbers_back rows)

number_graph_kept : (given : Sizes) (g : NumberGraph) → distinct_number_rows g.rows ≡ true → number_graph (with_first_rows (int ∷ []) given (graph_of g)) ≡ g
number_graph_kept given g distinct =
    ap number_graph (kept_graph (int ∷ []) given (graph_of g) (distinct_numbers given g.rows distinct))
    ∙ ap (λ rows. record { rows = rows; otherwise = g.otherwise }) (numbers_back g.rows)

-- a table that isn't printed is 0 everywhere
abbrev number_graph_of : List NumberRow → ℤ → NumberGraph
number_graph_of rows n = record { rows = rows; otherwise = n }

not_there : (rows : List NumberRow) (n : ℤ) → is_there (number_graph_of rows n) rows ≡ false → number_graph_of [] (pos 0) ≡ number_graph_of rows n
not_there [] n h = ap (number_graph_of []) (sym ((Decides-int_eq n (pos 0)).0 (is_zero (int_eq n (pos 0)) h)))
  where
    is_zero : (b : Bool) → not b ≡ false → b ≡ true
    is_zero true h = refl
    is_zero false h = absurd cc
not_there (r ∷ rows) n h = absurd cc

table_back : (given : Sizes) (g : NumberGraph) (o : Option Graph) → distinct_number_rows g.rows ≡ true → o ≡ found_where (is_there g g.rows) g
    → number_graph (with_first_rows (int ∷ []) given (unwrap_or o (default_graph int))) ≡ g
table_back given g o distinct is = elim (true_or_false (is_there g g.rows)) [
  | inl there ↦
      let found : o ≡ Some (graph_of g) = is ∙ ap (λ b. found_where b g) there in
      ap (λ o. number_graph (with_first_rows (int ∷ []) given (unwrap_or o (default_graph int)))) found ∙ number_graph_kept given g distinct
  | inr absent ↦
      let found : o ≡ None = is ∙ ap (λ b. found_where b g) absent in
      ap (λ o. number_graph (with_first_rows (int ∷ []) given (unwrap_or o (default_graph int)))) found ∙ not_there g.rows g.otherwise absent
]

-- ---- the model

record HasGraph (o : Option Graph) : Type 0 where
  graph : Graph
  is : o ≡ Some graph

has_graph : (o : Option Graph) → is_some o ≡ true → HasGraph o
has_graph None h = absurd cc
has_graph (Some g) h = record { graph = g; is = refl }

no_graph : (o : Option Graph) → is_some o ≡ false → None ≡ o
no_graph None h = refl
no_graph (Some g) h = absurd cc

abbrev model_with : Sizes → (Symbol → Option Graph) → NumberGraph → NumberGraph → Model
model_with s g d e = record { sizes = s; graphs = g; div_by_zero = d; mod_by_zero = e }

module _ (sig : Signature) (m : Model) (is : IsTextable sig m) where
  writable : list_all is_writable_symbol sig.symbols ≡ true
  writable = (both_true (list_all is_writable_symbol sig.symbols) (are_distinct (names_of sig.symbols)) (both_true (list_all is_writable sig.sorts) _ is.signature).1).0

  distinct : are_distinct (names_of sig.symbols) ≡ true
  distinct = (both_true (list_all is_writable_symbol sig.symbols) (are_distinct (names_of sig.symbols)) (both_true (list_all is_writable sig.sorts) _ is.signature).1).1

  abbrev ts : List Table
  ts = tables m sig.symbols

  -- a live symbol's graph
  record Live (f : Symbol) : Type 0 where
    graph : Graph
    is_graph_of : m.graphs f ≡ Some graph
    valid : is_graph f m.sizes graph ≡ true
    readable : is_readable_graph graph ≡ true

  live : (f : Symbol) → list_any (symbol_eq f) sig.symbols ≡ true → Live f
  live f there =
      let has = has_graph (m.graphs f) (is.over.graphs f ∙ there) in
      record {
        graph = has.graph;
        is_graph_of = has.is;
        valid = subst (λ o. IfSome o (λ g. IsTrue (is_graph f m.sizes g))) has.is (is.over.valid.graphs f);
        readable = subst (λ o. IfSome o (λ g. IsTrue (is_readable_graph g))) has.is (is.graphs f);
      }

  symbol_writable : (fs : List Symbol) (f : Symbol) → list_all is_writable_symbol fs ≡ true → list_any (symbol_eq f) fs ≡ true → is_writable_symbol f ≡ true
  symbol_writable [] f each there = absurd cc
  symbol_writable (g ∷ fs) f each there =
      let parts = both_true (is_writable_symbol g) (list_all is_writable_symbol fs) each in
      elim (either_true (symbol_eq f g) (list_any (symbol_eq f) fs) there) [
        | inl same ↦ ap is_writable_symbol ((Decides-symbol_eq f g).0 same) ∙ parts.0
        | inr behind ↦ symbol_writable fs f parts.1 behind
      ]

  symbol_sorts : (f : Symbol) → is_writable_symbol f ≡ true → list_all is_writable_sort (f.result ∷ f.args) ≡ true
  symbol_sorts f is =
      let rest = not (is_table_name f.name) && list_all is_writable_sort (f.result ∷ f.args) in
      (both_true (not (is_table_name f.name)) (list_all is_writable_sort (f.result ∷ f.args)) (both_true (is_writable f.name) rest is).1).1

  graph_is : (f : Symbol) (l : Live f) → (symbol_table m f).1 ≡ l.graph
  graph_is f l = ap (λ o. unwrap_or o (default_graph f.result)) l.is_graph_of

  symbol_read : (f : Symbol) → list_any (symbol_eq f) sig.symbols ≡ true → IsRead m.sizes f (symbol_table m f).1
  symbol_read f there =
      let l = live f there in
      subst (IsRead m.sizes f) (sym (graph_is f l)) (function_is m.sizes f l.graph (symbol_sorts f (symbol_writable sig.symbols f writable there)) l.valid l.readable)

  -- ---- what is given

  abbrev gs : List Given
  gs = map given_by ts

  tables_read : (p : ℕ) → Gives m.sizes (entries_given sig [] (on_lines p (map table_form ts))) gs
  tables_read p =
      all_tables_read m.sizes sig ts
      (all_read m.sizes sig m writable distinct symbol_read is.over.valid.div_by_zero is.div_by_zero is.over.valid.mod_by_zero is.mod_by_zero)
      (names_distinct m sig.symbols writable distinct) p

  abbrev fs : List Form
  fs = map (sort_entry m.sizes) sig.sorts ++ map table_form ts

  pending : AllPending m.sizes sig.sorts []
  pending s = inr (refl, elim (true_or_false (is_among sig.sorts s)) [ inl there ↦ inr there | inr absent ↦ inl (is.over.sizes s absent) ])

  entries_read : (after : List Element) × (entries_given sig [] (on_lines 2 fs) [] ≡ Ok (gs, after)) × AllKnown m.sizes after
  entries_read = sorts_read m.sizes sig [] gs sig.sorts (map table_form ts) (all_live sig.sorts) tables_read 2 [] pending

  -- ---- the model of it

  graph_back : (f : Symbol) → (if list_any (symbol_eq f) sig.symbols then Some (table_of gs m.sizes f) else None) ≡ m.graphs f
  graph_back f = elim (true_or_false (list_any (symbol_eq f) sig.symbols)) [
    | inl there ↦
        let l = live f there in
        let found = symbol_graph m sig.symbols (zero_tables m) f distinct there ∙ ap Some (graph_is f l) in
        let rows = both_true (distinct_rows f.args m.sizes l.graph.rows) (rows_allowed f.args l.graph.rows) (both_true _ _ (both_true (is_value f.result m.sizes l.graph.otherwise) _ l.valid).1).1 in
        rw there (ap (λ o. Some (with_first_rows f.args m.sizes (unwrap_or o (default_graph f.result)))) found ∙ ap Some (kept_graph f.args m.sizes l.graph rows.0) ∙ sym l.is_graph_of)
    | inr absent ↦ rw absent (no_graph (m.graphs f) (is.over.graphs f ∙ absent))
  ]

  graphs_back : (λ f. if list_any (symbol_eq f) sig.symbols then Some (table_of gs m.sizes f) else None) ≡ m.graphs
  graphs_back = λ j f. graph_back f j

  model_back : model_over sig gs m.sizes ≡ m
  model_back =
      ap (λ g. model_with m.sizes g (number_table gs m.sizes division_table) (number_table gs m.sizes modulus_table)) graphs_back
      ∙ ap (λ d. model_with m.sizes m.graphs d (number_table gs m.sizes modulus_table))
      (table_back m.sizes m.div_by_zero (graph_named gs division_table) is.over.valid.div_by_zero (division_graph m sig.symbols writable))
      ∙ ap (λ e. model_with m.sizes m.graphs m.div_by_zero e)
      (table_back m.sizes m.mod_by_zero (graph_named gs modulus_table) is.over.valid.mod_by_zero (modulus_graph m sig.symbols writable))

  -- ---- the text

  written_behind : (xs ys : List Form) → AllWritten xs → AllWritten ys → AllWritten (xs ++ ys)
  written_behind [] ys first second = second
  written_behind (x ∷ xs) ys first second = (first.0, written_behind xs ys first.1 second)

  sorts_written : (ns : List Name) → list_all is_writable ns ≡ true → AllWritten (map (sort_entry m.sizes) ns)
  sorts_written [] plain = tt
  sorts_written (n ∷ ns) plain =
      let parts = both_true (is_writable n) (list_all is_writable ns) plain in
      (sort_entry_written m.sizes n parts.0, sorts_written ns parts.1)

  zero_written : (b : Bool) (n : Name) (g : NumberGraph) → IsName n → AllWritten (map table_form (where_there b (zero_table n g)))
  zero_written true n g plain = (function_written (table_symbol n) (graph_of g) plain refl, tt)
  zero_written false n g plain = tt

  zeros_written : AllWritten (map table_form (zero_tables m))
  zeros_written =
      let b = is_there m.div_by_zero m.div_by_zero.rows in
      let c = is_there m.mod_by_zero m.mod_by_zero.rows in
      subst AllWritten (sym (map-append table_form (where_there b (zero_table division_table m.div_by_zero)) (where_there c (zero_table modulus_table m.mod_by_zero))))
      (written_behind _ _ (zero_written b division_table m.div_by_zero refl) (zero_written c modulus_table m.mod_by_zero refl))

  tables_written : (hs : List Symbol) → list_all is_writable_symbol hs ≡ true → AllWritten (map table_form (tables m hs))
  tables_written [] each = zeros_written
  tables_written (f ∷ hs) each =
      let parts = both_true (is_writable_symbol f) (list_all is_writable_symbol hs) each in
      let name = (both_true (is_writable f.name) _ parts.0).0 in
      (function_written f (symbol_table m f).1 name (symbol_sorts f parts.0), tables_written hs parts.1)

  entries_are : entry_forms m sig ≡ fs
  entries_are =
      let sorts = map (sort_entry m.sizes) sig.sorts in
      let symbols = map (symbol_entry m) sig.symbols in
      let division = table_entries division_table m.div_by_zero in
      let modulus = table_entries modulus_table m.mod_by_zero in
      append_assoc (sorts ++ symbols) division modulus ∙ append_assoc sorts symbols (division ++ modulus) ∙ ap (λ xs. sorts ++ xs) (table_forms m sig.symbols)

  forms_are : forms (model_lines m sig) ≡ Ok (node 0 (on_lines 2 fs) ⨾ none)
  forms_are =
      let sorts = (both_true (list_all is_writable sig.sorts) _ is.signature).0 in
      ap (λ xs. forms (list_text xs)) entries_are
      ∙ list_read fs (written_behind (map (sort_entry m.sizes) sig.sorts) (map table_form ts) (sorts_written sig.sorts sorts) (tables_written sig.symbols writable))

  -- no entry is a word
  no_word : (ns : List Name) (us : List Table) → without_word (codes "model") (on_lines 2 (map (sort_entry m.sizes) ns ++ map table_form us)) ≡ on_lines 2 (map (sort_entry m.sizes) ns ++ map table_form us)
  no_word [] [] = refl
  no_word [] (u ∷ us) = refl
  no_word (n ∷ ns) us = refl

  read_back : model_of (model_lines m sig) sig ≡ Ok m
  read_back =
      let bytes = model_lines m sig in
      let read = entries_read in
      ap (model_from bytes sig) forms_are
      ∙ ap (λ es. with_line bytes (model_of_entries sig (es, none))) (no_word sig.sorts ts)
      ∙ ap (λ r. with_line bytes (and_then (λ (p : List Given × List Element). nothing_behind none (model_over sig p.0 (sizes p.1))) r)) read.1
      ∙ ap (λ s. Ok (model_over sig gs s)) (sizes_known m.sizes read.0 is.over.valid.sizes read.2)
      ∙ ap Ok model_back

pub models_read_back : ModelsReadBack
models_read_back sig m is = read_back sig m is
