-- The whole numbers of a model that was read from a text can be read.
use Rattle.std.proofs.Common.{◌≡◌, ◌∙◌, sym, ap, subst, refl, ℕ, Bool, true, false, if◌then◌else◌, ◌&&◌, List, [], ◌∷◌, ◌++◌, map, length, codes, pos, Option, Some, None, Result, Ok, Err}
use Rattle.std.specs.Prelude.{IfSome, neg_ℤ, option_map, unwrap_or}
use Rattle.std.specs.List.{list_any, list_all}
use Rattle.smt_lex.specs.Lex.{Fault, symbol_of}
use Rattle.smt_lex.specs.Forms.{Form, atom, node, Forms, none, ◌⨾◌, forms}
use Rattle.smt_lex.specs.Names.{is_among}
use Rattle.smt_lex.specs.declared.items.Item.{Item}
use Rattle.smt_lex.specs.declared.items.Item.TheVariants.{Left, Right, Numeral, Decimal, Hex, Bin, Text, Word, Quoted, Keyword}
use Rattle.smt_terms.specs.Equal.{name_eq, sort_eq, symbol_eq}
use Rattle.smt_terms.specs.Models.{Row, Graph, NumberRow, Model}
use Rattle.smt_terms.specs.Operators.{first_value}
use Rattle.smt_terms.specs.Sorts.{Name, Sort, bool, int, bit_vector, array, free_sort, Symbol, Variable}
use Rattle.smt_terms.specs.Val.{within_range}
use Rattle.smt_terms.specs.Values.{Value, truth, whole, bits, element, table, no_pairs, Sizes, number, store}
use Rattle.smt_terms.proofs.Tests.{both_true, and_true}
use Rattle.script_terms.specs.Heads.{is_vector_name}
use Rattle.script_terms.specs.Parts.{place_of, constant_by, symbol_in, word_in, is_name, numeral_in, vector_number}
use Rattle.script_terms.specs.Refusals.{and_then}
use Rattle.script_read.specs.Commands.{Signature}
use Rattle.script_read.specs.Script.{truth_named}
use Rattle.models.specs.GraphRows.{default_graph}
use Rattle.model_texts.specs.Entries.{division_table, modulus_table, Entry, function, sort_name, elements, entry_in, Parameter, symbol_named, Given, have_sorts, variables, with_table, function_given, elements_met, sort_given, entry_given, entries_given}
use Rattle.model_texts.specs.Laws.{is_readable, is_readable_row, is_readable_graph, is_readable_table}
use Rattle.model_texts.specs.ModelText.{graph_named, with_first_rows, table_of, number_row, number_graph, number_table, model_over, nothing_behind, model_of_entries, parts, without_word, model_in, with_line, model_from, model_of}
use Rattle.model_texts.specs.Reading.{Element, place_among, names_in, with_element, sizes, Reading, ◌>>=◌, gives, refuses, beside, by_rule, meets}
use Rattle.model_texts.specs.Refusals.{Cause, Refused, model_sort, model_form, not_a_table, model_number, model_twice, where_so}
use Rattle.model_texts.specs.Tables.{Side, holds, written, Equation, equations, Key, side_value, keys_of, key_named, condition_values, condition, value_everywhere, row_first, body_in, first_rows}
use Rattle.model_texts.specs.ValueForms.{is_sort_form, Literal, truth_literal, whole_literal, vector_literal, literal_of, atom_literal, negative_literal, indexed_literal, literal_value, is_abstract, element_of, element_named, qualified_or_indexed, filled_sort, filled, negative_or_filled, stored, value_in}
use Rattle.model_texts.proofs.Readings.{same_answer, no_answer, in_steps}
use Rattle.model_texts.proofs.RowsAdded.{first_rows_all}
use Rattle.smtrw_answers.proofs.ReadableValues.{store_readable, of_sort_readable, IsReadableModel}

-- ---- what a part of a text gives passes a test

abbrev Gives : {A : Type 0} → (A → Bool) → Reading A → Type 0
Gives {A = A} test r = (es fs : List Element) (a : A) → r es ≡ Ok (a, fs) → test a ≡ true

gives_it : {A : Type 0} (test : A → Bool) (a : A) → test a ≡ true → Gives test (gives a)
gives_it test a is es fs b h = ap (λ q. test q.0) (sym (same_answer (a, es) (b, fs) h)) ∙ is

gives_none : {A : Type 0} (test : A → Bool) (cause : Cause) (place : ℕ) → Gives test (refuses cause place)
gives_none test cause place es fs a h = absurd (no_answer (record { cause = cause; place = place }) (a, fs) h)

gives_either : {A : Type 0} (test : A → Bool) (b : Bool) (r q : Reading A) → Gives test r → Gives test q → Gives test (if b then r else q)
gives_either test true r q first second = first
gives_either test false r q first second = second

gives_then : {A B : Type 0} (first : A → Bool) (test : B → Bool) (r : Reading A) (next : A → Reading B) → Gives first r → ((a : A) → first a ≡ true → Gives test (next a)) → Gives test (r >>= next)
gives_then first test r next before rest es fs b h =
    let steps = in_steps r next es b fs h in
    rest steps.0 (before es steps.1.0 steps.0 steps.1.1.0) steps.1.0 fs b steps.1.1.1

-- ---- constants

abbrev IsGood : Literal → Type 0
IsGood l = l.in_range ≡ true → is_readable l.value ≡ true

good_truth : (o : Option Bool) → IfSome (option_map truth_literal o) IsGood
good_truth None = tt
good_truth (Some b) = λ range. refl

good_token : (i : Item) (text : List ℕ) (name : Option Name) → IfSome (literal_of (constant_by i text) name) IsGood
good_token Numeral text name = λ range. range
good_token Hex text name = λ range. refl
good_token Bin text name = λ range. refl
good_token Left text name = good_truth (truth_named name)
good_token Right text name = good_truth (truth_named name)
good_token Decimal text name = good_truth (truth_named name)
good_token Text text name = good_truth (truth_named name)
good_token Word text name = good_truth (truth_named name)
good_token Quoted text name = good_truth (truth_named name)
good_token Keyword text name = good_truth (truth_named name)

good_negative : (name : Option Name) (n : Option ℕ) → IfSome (negative_literal name n) IsGood
good_negative name None = tt
good_negative name (Some n) = by (is_name (codes "-") name)
  where
    by : (b : Bool) → IfSome (if b then Some (whole_literal (neg_ℤ (pos n))) else None) IsGood
    by true = λ range. range
    by false = tt

good_indexed : (name : Option Name) (width : Option ℕ) → IfSome (indexed_literal name width) IsGood
good_indexed None width = tt
good_indexed (Some name) None = tt
good_indexed (Some name) (Some width) = by (is_vector_name (Some name))
  where
    by : (b : Bool) → IfSome (if b then Some (vector_literal width (vector_number name)) else None) IsGood
    by true = λ range. refl
    by false = tt

gives_literal : (place : ℕ) (s : Sort) (o : Option Literal) → IfSome o IsGood → Gives is_readable (by_rule (literal_value place s o))
gives_literal place s None good es fs v h = absurd (no_answer (record { cause = not_a_table; place = place }) (v, fs) h)
gives_literal place s (Some l) good es fs v h = by (sort_eq l.sort s) l.in_range refl h
  where
    by : (b c : Bool) → l.in_range ≡ c → beside es (where_so b model_sort place (where_so c model_number place (Ok l.value))) ≡ Ok (v, fs) → is_readable v ≡ true
    by true true range h = ap (λ q. is_readable q.0) (sym (same_answer (l.value, es) (v, fs) h)) ∙ good range
    by true false range h = absurd (no_answer (record { cause = model_number; place = place }) (v, fs) h)
    by false c range h = absurd (no_answer (record { cause = model_sort; place = place }) (v, fs) h)

-- ---- values

gives_element : (place : ℕ) (s : Sort) (n : Name) (f : Form) → Gives is_readable (element_of place s n f)
gives_element place bool n f = gives_none is_readable model_sort place
gives_element place int n f = gives_none is_readable model_sort place
gives_element place (bit_vector w) n f = gives_none is_readable model_sort place
gives_element place (array i e) n f = gives_none is_readable model_sort place
gives_element place (free_sort s) n f = gives_either is_readable (is_sort_form (free_sort s) f) (meets s n) (refuses model_sort place) met (gives_none is_readable model_sort place)
  where
    met : Gives is_readable (meets s n)
    met es fs v h = ap (λ q. is_readable q.0) (sym (same_answer (element (place_among (names_in es s) n), with_element s n es) (v, fs) h))

gives_named : (place : ℕ) (s : Sort) (o : Option Name) (f : Form) → Gives is_readable (element_named place s o f)
gives_named place s None f = gives_none is_readable not_a_table place
gives_named place s (Some n) f = gives_either is_readable (is_abstract n) (element_of place s n f) (refuses not_a_table place) (gives_element place s n f) (gives_none is_readable not_a_table place)

gives_qualified : (place : ℕ) (s : Sort) (f g h : Form) → Gives is_readable (qualified_or_indexed place s f g h)
gives_qualified place s f g h =
    let rule = by_rule (literal_value place s (indexed_literal (symbol_in g) (numeral_in h))) in
    let named = element_named place s (symbol_in g) h in
    gives_either is_readable (is_name (codes "_") (word_in f)) rule (if is_name (codes "as") (word_in f) then named else refuses not_a_table place)
    (gives_literal place s (indexed_literal (symbol_in g) (numeral_in h)) (good_indexed (symbol_in g) (numeral_in h)))
    (gives_either is_readable (is_name (codes "as") (word_in f)) named (refuses not_a_table place) (gives_named place s (symbol_in g) h) (gives_none is_readable not_a_table place))

abbrev GivesAt : (Sort → Reading Value) → Type 0
GivesAt next = (s : Sort) → Gives is_readable (next s)

gives_filled : (place : ℕ) (s : Sort) (f : Form) (next : Sort → Reading Value) → GivesAt next → Gives is_readable (filled place s f next)
gives_filled place bool f next rest = gives_none is_readable model_sort place
gives_filled place int f next rest = gives_none is_readable model_sort place
gives_filled place (bit_vector w) f next rest = gives_none is_readable model_sort place
gives_filled place (free_sort s) f next rest = gives_none is_readable model_sort place
gives_filled place (array i e) f next rest =
    gives_either is_readable (is_sort_form (array i e) f) (next e >>= λ v. gives (table v no_pairs)) (refuses model_sort place)
    (gives_then is_readable is_readable (next e) (λ v. gives (table v no_pairs)) (rest e) (λ v r. gives_it is_readable (table v no_pairs) (and_true (is_readable v) true r refl)))
    (gives_none is_readable model_sort place)

gives_two : (place : ℕ) (s : Sort) (l : Option Literal) (f : Option Form) (next : Sort → Reading Value) → IfSome l IsGood → GivesAt next → Gives is_readable (negative_or_filled place s l f next)
gives_two place s (Some l) f next good rest = gives_literal place s (Some l) good
gives_two place s None (Some f) next good rest = gives_filled place s f next rest
gives_two place s None None next good rest = gives_none is_readable not_a_table place

gives_stored : (place : ℕ) (s : Sort) (old key new : Sort → Reading Value) → GivesAt old → GivesAt key → GivesAt new → Gives is_readable (stored place s old key new)
gives_stored place bool old key new a k v = gives_none is_readable model_sort place
gives_stored place int old key new a k v = gives_none is_readable model_sort place
gives_stored place (bit_vector w) old key new a k v = gives_none is_readable model_sort place
gives_stored place (free_sort s) old key new a k v = gives_none is_readable model_sort place
gives_stored place (array i e) old key new a k v =
    gives_then is_readable is_readable (old (array i e)) (λ x. key i >>= λ y. new e >>= λ z. gives (store i (λ _. 1) x y z)) (a (array i e))
    (λ x r. gives_then is_readable is_readable (key i) (λ y. new e >>= λ z. gives (store i (λ _. 1) x y z)) (k i)
    (λ y q. gives_then is_readable is_readable (new e) (λ z. gives (store i (λ _. 1) x y z)) (v e)
    (λ z p. gives_it is_readable (store i (λ _. 1) x y z) (store_readable i (λ _. 1) x y z r q p))))

gives_value : (f : Form) (s : Sort) → Gives is_readable (value_in f s)
gives_value (atom t) s = gives_literal t.start s (atom_literal t) (good_token t.item t.text (symbol_of t))
gives_value (node place none) s = gives_none is_readable not_a_table place
gives_value (node place (f ⨾ none)) s = gives_none is_readable not_a_table place
gives_value (node place (f ⨾ v ⨾ none)) s =
    gives_two place s (negative_literal (symbol_in f) (numeral_in v)) (filled_sort f) (value_in v) (good_negative (symbol_in f) (numeral_in v)) (gives_value v)
gives_value (node place (f ⨾ g ⨾ h ⨾ none)) s = gives_qualified place s f g h
gives_value (node place (f ⨾ a ⨾ k ⨾ v ⨾ none)) s =
    gives_either is_readable (is_name (codes "store") (symbol_in f)) (stored place s (value_in a) (value_in k) (value_in v)) (refuses not_a_table place)
    (gives_stored place s (value_in a) (value_in k) (value_in v) (gives_value a) (gives_value k) (gives_value v)) (gives_none is_readable not_a_table place)
gives_value (node place (f ⨾ a ⨾ k ⨾ v ⨾ w ⨾ ws)) s = gives_none is_readable not_a_table place

-- ---- conditions

gives_side : (s : Sort) (side : Side) → Gives is_readable (side_value s side)
gives_side s (holds b) = gives_it is_readable (truth b) refl
gives_side s (written f) = gives_value f s

abbrev key_readable : Key → Bool
key_readable k = is_readable k.value

gives_keys : (ds : List Equation) → Gives (list_all key_readable) (keys_of ds)
gives_keys [] = gives_it (list_all key_readable) [] refl
gives_keys (d ∷ ds) =
    gives_then is_readable (list_all key_readable) (side_value d.parameter.sort d.side) (λ v. keys_of ds >>= λ ks. gives (record { name = d.parameter.name; value = v } ∷ ks)) (gives_side d.parameter.sort d.side)
    (λ v r. gives_then (list_all key_readable) (list_all key_readable) (keys_of ds) (λ ks. gives (record { name = d.parameter.name; value = v } ∷ ks)) (gives_keys ds)
    (λ ks q. gives_it (list_all key_readable) (record { name = d.parameter.name; value = v } ∷ ks) (and_true (is_readable v) (list_all key_readable ks) r q)))

named_readable : (ks : List Key) (n : Name) → list_all key_readable ks ≡ true → is_readable (key_named ks n) ≡ true
named_readable [] n all = refl
named_readable (k ∷ ks) n all =
    let a = both_true (is_readable k.value) (list_all key_readable ks) all in
    by (name_eq k.name n) a.0 (named_readable ks n a.1)
  where
    by : (b : Bool) → is_readable k.value ≡ true → is_readable (key_named ks n) ≡ true → is_readable (if b then k.value else key_named ks n) ≡ true
    by true here rest = here
    by false here rest = rest

in_order_readable : (xs : List Variable) (ks : List Key) → list_all key_readable ks ≡ true → list_all is_readable (map (λ (x : Variable). key_named ks x.name) xs) ≡ true
in_order_readable [] ks all = refl
in_order_readable (x ∷ xs) ks all = and_true (is_readable (key_named ks x.name)) (list_all is_readable (map (λ (y : Variable). key_named ks y.name) xs)) (named_readable ks x.name all) (in_order_readable xs ks all)

gives_condition_values : (place : ℕ) (xs : List Variable) (o : Option (List Equation)) → Gives (list_all is_readable) (condition_values place xs o)
gives_condition_values place xs None = gives_none (list_all is_readable) not_a_table place
gives_condition_values place xs (Some ds) =
    gives_then (list_all key_readable) (list_all is_readable) (keys_of ds) (λ ks. gives (map (λ (x : Variable). key_named ks x.name) xs)) (gives_keys ds)
    (λ ks r. gives_it (list_all is_readable) (map (λ (x : Variable). key_named ks x.name) xs) (in_order_readable xs ks r))

gives_condition : (xs : List Variable) (c : Form) → Gives (list_all is_readable) (condition xs c)
gives_condition xs c = gives_condition_values (place_of c) xs (equations xs c)

-- ---- bodies

gives_everywhere : (f : Form) (s : Sort) → Gives is_readable_graph (value_everywhere (value_in f s))
gives_everywhere f s =
    gives_then is_readable is_readable_graph (value_in f s) (λ v. gives (record { rows = []; otherwise = v })) (gives_value f s)
    (λ v r. gives_it is_readable_graph (record { rows = []; otherwise = v }) r)

row_before : (ks : List Value) (v : Value) (g : Graph) → list_all is_readable ks ≡ true → is_readable v ≡ true → is_readable_graph g ≡ true
    → is_readable_graph (record { rows = record { keys = ks; result = v } ∷ g.rows; otherwise = g.otherwise }) ≡ true
row_before ks v g keys value graph =
    let a = both_true (list_all is_readable_row g.rows) (is_readable g.otherwise) graph in
    and_true (list_all is_readable_row (record { keys = ks; result = v } ∷ g.rows)) (is_readable g.otherwise)
    (and_true (list_all is_readable ks && is_readable v) (list_all is_readable_row g.rows) (and_true (list_all is_readable ks) (is_readable v) keys value) a.0) a.1

gives_row : (keys : Reading (List Value)) (result : Reading Value) (body : Reading Graph) → Gives (list_all is_readable) keys → Gives is_readable result → Gives is_readable_graph body → Gives is_readable_graph (row_first keys result body)
gives_row keys result body a b c =
    gives_then (list_all is_readable) is_readable_graph keys (λ ks. result >>= λ v. body >>= λ g. gives (record { rows = record { keys = ks; result = v } ∷ g.rows; otherwise = g.otherwise })) a
    (λ ks r. gives_then is_readable is_readable_graph result (λ v. body >>= λ g. gives (record { rows = record { keys = ks; result = v } ∷ g.rows; otherwise = g.otherwise })) b
    (λ v q. gives_then is_readable_graph is_readable_graph body (λ g. gives (record { rows = record { keys = ks; result = v } ∷ g.rows; otherwise = g.otherwise })) c
    (λ g p. gives_it is_readable_graph (record { rows = record { keys = ks; result = v } ∷ g.rows; otherwise = g.otherwise }) (row_before ks v g r q p))))

gives_body : (f : Form) (xs : List Variable) (s : Sort) → Gives is_readable_graph (body_in f xs s)
gives_body (atom t) xs s = gives_everywhere (atom t) s
gives_body (node place none) xs s = gives_everywhere (node place none) s
gives_body (node place (k ⨾ none)) xs s = gives_everywhere (node place (k ⨾ none)) s
gives_body (node place (k ⨾ c ⨾ none)) xs s = gives_everywhere (node place (k ⨾ c ⨾ none)) s
gives_body (node place (k ⨾ c ⨾ v ⨾ none)) xs s = gives_everywhere (node place (k ⨾ c ⨾ v ⨾ none)) s
gives_body (node place (k ⨾ c ⨾ v ⨾ b ⨾ none)) xs s =
    gives_either is_readable_graph (is_name (codes "ite") (symbol_in k)) (row_first (condition xs c) (value_in v s) (body_in b xs s)) (value_everywhere (value_in (node place (k ⨾ c ⨾ v ⨾ b ⨾ none)) s))
    (gives_row (condition xs c) (value_in v s) (body_in b xs s) (gives_condition xs c) (gives_value v s) (gives_body b xs s)) (gives_everywhere (node place (k ⨾ c ⨾ v ⨾ b ⨾ none)) s)
gives_body (node place (k ⨾ c ⨾ v ⨾ b ⨾ w ⨾ ws)) xs s = gives_everywhere (node place (k ⨾ c ⨾ v ⨾ b ⨾ w ⨾ ws)) s

-- ---- entries

abbrev given_readable : Given → Bool
given_readable g = is_readable_graph g.graph

abbrev are_readable_tables : List Given → Bool
are_readable_tables gs = list_all given_readable gs

table_more : (gs : List Given) (g : Given) → are_readable_tables gs ≡ true → given_readable g ≡ true → are_readable_tables (gs ++ g ∷ []) ≡ true
table_more [] g all one = and_true (given_readable g) true one refl
table_more (h ∷ gs) g all one =
    let a = both_true (given_readable h) (are_readable_tables gs) all in
    and_true (given_readable h) (are_readable_tables (gs ++ g ∷ [])) a.0 (table_more gs g a.1 one)

gives_function : (place : ℕ) (gs : List Given) (o : Option Symbol) (ps : List Parameter) (s b : Form) → are_readable_tables gs ≡ true → Gives are_readable_tables (function_given place gs o ps s b)
gives_function place gs None ps s b all = gives_it are_readable_tables gs all
gives_function place gs (Some f) ps s b all =
    gives_either are_readable_tables (is_among (map (λ (g : Given). g.name) gs) f.name) (refuses model_twice place) (if have_sorts f.args ps && is_sort_form f.result s then with_table gs f ps b else refuses model_sort place)
    (gives_none are_readable_tables model_twice place)
    (gives_either are_readable_tables (have_sorts f.args ps && is_sort_form f.result s) (with_table gs f ps b) (refuses model_sort place)
    (gives_then is_readable_graph are_readable_tables (body_in b (variables f.args ps) f.result) (λ g. gives (gs ++ record { name = f.name; graph = g } ∷ [])) (gives_body b (variables f.args ps) f.result)
    (λ g r. gives_it are_readable_tables (gs ++ record { name = f.name; graph = g } ∷ []) (table_more gs (record { name = f.name; graph = g }) all r)))
    (gives_none are_readable_tables model_sort place))

gives_elements : (s : Sort) (vs : Forms) (gs : List Given) → are_readable_tables gs ≡ true → Gives are_readable_tables (elements_met s vs gs)
gives_elements s none gs all = gives_it are_readable_tables gs all
gives_elements s (v ⨾ vs) gs all = gives_then is_readable are_readable_tables (value_in v s) (λ _. elements_met s vs gs) (gives_value v s) (λ _ r. gives_elements s vs gs all)

gives_sort : (ns : List Name) (s : Form) (vs : Forms) (gs : List Given) → are_readable_tables gs ≡ true → Gives are_readable_tables (sort_given ns s vs gs)
gives_sort [] s vs gs all = gives_it are_readable_tables gs all
gives_sort (n ∷ ns) s vs gs all =
    gives_either are_readable_tables (is_sort_form (free_sort n) s) (elements_met (free_sort n) vs gs) (sort_given ns s vs gs) (gives_elements (free_sort n) vs gs all) (gives_sort ns s vs gs all)

gives_entry : (sig : Signature) (gs : List Given) (place : ℕ) (o : Option Entry) → are_readable_tables gs ≡ true → Gives are_readable_tables (entry_given sig gs place o)
gives_entry sig gs place None all = gives_none are_readable_tables model_form place
gives_entry sig gs place (Some sort_name) all = gives_it are_readable_tables gs all
gives_entry sig gs place (Some (elements s vs)) all = gives_sort sig.sorts s vs gs all
gives_entry sig gs place (Some (function n ps s b)) all = gives_function place gs (symbol_named sig n) ps s b all

gives_entries : (sig : Signature) (gs : List Given) (fs : Forms) → are_readable_tables gs ≡ true → Gives are_readable_tables (entries_given sig gs fs)
gives_entries sig gs none all = gives_it are_readable_tables gs all
gives_entries sig gs (f ⨾ fs) all =
    gives_then are_readable_tables are_readable_tables (entry_given sig gs (place_of f) (entry_in f)) (λ hs. entries_given sig hs fs) (gives_entry sig gs (place_of f) (entry_in f) all)
    (λ hs r. gives_entries sig hs fs r)

-- ---- the model of what is given

graph_readable : (gs : List Given) (n : Name) (s : Sort) → are_readable_tables gs ≡ true → is_readable_graph (unwrap_or (graph_named gs n) (default_graph s)) ≡ true
graph_readable [] n s all = of_sort_readable s
graph_readable (g ∷ gs) n s all =
    let a = both_true (given_readable g) (are_readable_tables gs) all in
    by (name_eq g.name n) a.0 (graph_readable gs n s a.1)
  where
    by : (b : Bool) → given_readable g ≡ true → is_readable_graph (unwrap_or (graph_named gs n) (default_graph s)) ≡ true
        → is_readable_graph (unwrap_or (if b then Some g.graph else graph_named gs n) (default_graph s)) ≡ true
    by true here rest = here
    by false here rest = rest

first_rows_readable : (args : List Sort) (counts : Sizes) (g : Graph) → is_readable_graph g ≡ true → is_readable_graph (with_first_rows args counts g) ≡ true
first_rows_readable args counts g is =
    let a = both_true (list_all is_readable_row g.rows) (is_readable g.otherwise) is in
    and_true (list_all is_readable_row (first_rows args counts g.rows)) (is_readable g.otherwise) (first_rows_all args counts is_readable_row g.rows [] a.0) a.1

number_within : (v : Value) → is_readable v ≡ true → within_range (number v) ≡ true
number_within (truth b) h = refl
number_within (whole n) h = h
number_within (bits bs) h = refl
number_within (element i) h = refl
number_within (table d ps) h = refl

first_within : (ks : List Value) → list_all is_readable ks ≡ true → within_range (number (first_value ks)) ≡ true
first_within [] h = refl
first_within (k ∷ ks) h = number_within k (both_true (is_readable k) (list_all is_readable ks) h).0

abbrev row_within : NumberRow → Bool
row_within r = within_range r.key && within_range r.result

rows_within : (rows : List Row) → list_all is_readable_row rows ≡ true → list_all row_within (map number_row rows) ≡ true
rows_within [] h = refl
rows_within (r ∷ rows) h =
    let a = both_true (is_readable_row r) (list_all is_readable_row rows) h in
    let b = both_true (list_all is_readable r.keys) (is_readable r.result) a.0 in
    and_true (row_within (number_row r)) (list_all row_within (map number_row rows))
    (and_true (within_range (number (first_value r.keys))) (within_range (number r.result)) (first_within r.keys b.0) (number_within r.result b.1)) (rows_within rows a.1)

numbers_readable : (g : Graph) → is_readable_graph g ≡ true → is_readable_table (number_graph g) ≡ true
numbers_readable g is =
    let a = both_true (list_all is_readable_row g.rows) (is_readable g.otherwise) is in
    and_true (list_all row_within (map number_row g.rows)) (within_range (number g.otherwise)) (rows_within g.rows a.0) (number_within g.otherwise a.1)

module _ (sig : Signature) (gs : List Given) (counts : Sizes) (all : are_readable_tables gs ≡ true) where
  table_readable : (f : Symbol) → IfSome (if list_any (symbol_eq f) sig.symbols then Some (table_of gs counts f) else None) (λ g. is_readable_graph g ≡ true)
  table_readable f = by (list_any (symbol_eq f) sig.symbols)
    where
      by : (b : Bool) → IfSome (if b then Some (table_of gs counts f) else None) (λ g. is_readable_graph g ≡ true)
      by true = first_rows_readable f.args counts (unwrap_or (graph_named gs f.name) (default_graph f.result)) (graph_readable gs f.name f.result all)
      by false = tt

  division_readable : (n : Name) → is_readable_table (number_table gs counts n) ≡ true
  division_readable n =
      let g = unwrap_or (graph_named gs n) (default_graph int) in
      numbers_readable (with_first_rows (int ∷ []) counts g) (first_rows_readable (int ∷ []) counts g (graph_readable gs n int all))

  over_readable : IsReadableModel (model_over sig gs counts)
  over_readable = record {
    graphs = table_readable;
    div_by_zero = division_readable division_table;
    mod_by_zero = division_readable modulus_table;
  }

-- ---- texts

-- what a text gave: the tables of its entries, with the elements that were met, and the model of these
pub record IsReadFrom (sig : Signature) (m : Model) : Type 0 where
  pub entries : Forms
  pub given : List Given
  pub met : List Element
  pub gave : entries_given sig [] entries [] ≡ Ok (given, met)
  pub model : model_over sig given (sizes met) ≡ m

module _ (sig : Signature) (m : Model) where
  of_answer : (es behind : Forms) (o : Result (List Given × List Element) Refused) → entries_given sig [] es [] ≡ o → and_then (λ (r : List Given × List Element). nothing_behind behind (model_over sig r.0 (sizes r.1))) o ≡ Ok m → IsReadFrom sig m
  of_answer es none (Ok r) gave h = record { entries = es; given = r.0; met = r.1; gave = gave; model = same_answer (model_over sig r.0 (sizes r.1)) m h }
  of_answer es (f ⨾ fs) (Ok r) gave h = absurd (no_answer (record { cause = model_form; place = place_of f }) m h)
  of_answer es behind (Err e) gave h = absurd (no_answer e m h)

  of_parts : (o : Result (Forms × Forms) Refused) → and_then (model_of_entries sig) o ≡ Ok m → IsReadFrom sig m
  of_parts (Ok p) h = of_answer p.0 p.1 (entries_given sig [] p.0 []) refl h
  of_parts (Err e) h = absurd (no_answer e m h)

  of_line : (bytes : List ℕ) (o : Result Model Refused) → with_line bytes o ≡ Ok m → o ≡ Ok m
  of_line bytes (Ok n) h = ap Ok (same_answer n m h)
  of_line bytes (Err e) h = absurd (no_answer _ m h)

  of_forms : (bytes : List ℕ) (o : Result Forms Fault) → model_from bytes sig o ≡ Ok m → IsReadFrom sig m
  of_forms bytes (Ok fs) h = of_parts (parts (length bytes) (without_word (codes "sat") fs)) (of_line bytes (model_in sig (length bytes) fs) h)
  of_forms bytes (Err e) h = absurd (no_answer _ m h)

  pub read_from : (bytes : List ℕ) → model_of bytes sig ≡ Ok m → IsReadFrom sig m
  read_from bytes h = of_forms bytes (forms bytes) h

  pub read_readable : IsReadFrom sig m → IsReadableModel m
  read_readable is =
      let all = gives_entries sig [] is.entries refl [] is.met is.given is.gave in
      subst IsReadableModel is.model (over_readable sig is.given (sizes is.met) all)
