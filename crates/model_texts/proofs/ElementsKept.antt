-- What stays true of the elements that are known while a text is read whose entries are over live sorts.
use Rattle.std.proofs.Common.{◌≡◌, ◌∙◌, sym, ap, subst, refl, ℕ, Bool, true, false, if◌then◌else◌, ◌&&◌, List, [], ◌∷◌, ◌++◌, map, codes, Option, Some, None}
use Rattle.std.specs.List.{list_all}
use Rattle.std.proofs.lemmas.Option.{none-some, same_Some}
use Rattle.smt_lex.specs.Names.{is_among}
use Rattle.smt_lex.specs.Forms.{Form, atom, node, Forms, none, ◌⨾◌}
use Rattle.smt_terms.specs.Equal.{name_eq}
use Rattle.smt_terms.specs.Models.{Graph}
use Rattle.smt_terms.specs.Sorts.{Name, Sort, bool, int, bit_vector, array, free_sort, Symbol, Variable}
use Rattle.smt_terms.specs.Values.{Value, table, no_pairs, store}
use Rattle.smt_terms.proofs.Equal.{name_same, name_itself}
use Rattle.smt_terms.proofs.Tests.{both_true, left_true, right_true}
use Rattle.script_terms.specs.Parts.{place_of, symbol_in, word_in, is_name, numeral_in}
use Rattle.script_read.specs.Commands.{Signature}
use Rattle.script_read.specs.Printable.{sort_is_live}
use Rattle.model_texts.specs.Refusals.{model_form, model_sort, model_twice, not_a_table}
use Rattle.model_texts.specs.Reading.{Element, with_element, Reading, ◌>>=◌, gives, refuses, by_rule, meets}
use Rattle.model_texts.specs.ValueForms.{is_sort_form, Literal, atom_literal, negative_literal, indexed_literal, literal_value, is_abstract, element_of, element_named, qualified_or_indexed, filled_sort, filled, negative_or_filled, stored, value_in}
use Rattle.model_texts.specs.Tables.{Side, holds, written, Equation, parameter_named, equations, Key, side_value, keys_of, key_named, keys_in_order, condition_values, condition, value_everywhere, row_first, body_in}
use Rattle.model_texts.specs.Entries.{Parameter, Entry, function, sort_name, elements, entry_in, symbol_among, symbol_named, division_table, modulus_table, table_symbol, Given, have_sorts, variables, with_table, function_given, elements_met, sort_given, entry_given, entries_given}
use Rattle.model_texts.specs.Proper.{rank_is_live, is_table_name, IsProper}
use Rattle.model_texts.proofs.GivenModels.{found_symbol}
use Rattle.model_texts.proofs.EquationsOf.{IsEquationOf, AreEquationsOf, found_again, equations_are_of}
use Rattle.model_texts.proofs.Readings.{same_answer, Keeps, keeps_gives, keeps_refuses, keeps_rule, keeps_if, keeps_then}

module _ (ns : List Name) (P : List Element → Type 0) (met : (s n : Name) (es : List Element) → is_among ns s ≡ true → P es → P (with_element s n es)) where
  -- ---- values

  keeps_meets : (s n : Name) → is_among ns s ≡ true → Keeps P (meets s n)
  keeps_meets s n live es fs v h p = subst P (ap (λ q. q.1) (same_answer _ (v, fs) h)) (met s n es live p)

  keeps_element : (place : ℕ) (s : Sort) (n : Name) (f : Form) → sort_is_live ns s ≡ true → Keeps P (element_of place s n f)
  keeps_element place bool n f live = keeps_refuses P model_sort place
  keeps_element place int n f live = keeps_refuses P model_sort place
  keeps_element place (bit_vector w) n f live = keeps_refuses P model_sort place
  keeps_element place (array i e) n f live = keeps_refuses P model_sort place
  keeps_element place (free_sort s) n f live =
      keeps_if P (is_sort_form (free_sort s) f) (meets s n) (refuses model_sort place) (keeps_meets s n live) (keeps_refuses P model_sort place)

  keeps_named : (place : ℕ) (s : Sort) (o : Option Name) (f : Form) → sort_is_live ns s ≡ true → Keeps P (element_named place s o f)
  keeps_named place s None f live = keeps_refuses P not_a_table place
  keeps_named place s (Some n) f live =
      keeps_if P (is_abstract n) (element_of place s n f) (refuses not_a_table place) (keeps_element place s n f live) (keeps_refuses P not_a_table place)

  keeps_qualified : (place : ℕ) (s : Sort) (f g h : Form) → sort_is_live ns s ≡ true → Keeps P (qualified_or_indexed place s f g h)
  keeps_qualified place s f g h live =
      let rule = by_rule (literal_value place s (indexed_literal (symbol_in g) (numeral_in h))) in
      let named = element_named place s (symbol_in g) h in
      keeps_if P (is_name (codes "_") (word_in f)) rule (if is_name (codes "as") (word_in f) then named else refuses not_a_table place)
      (keeps_rule P (literal_value place s (indexed_literal (symbol_in g) (numeral_in h))))
      (keeps_if P (is_name (codes "as") (word_in f)) named (refuses not_a_table place) (keeps_named place s (symbol_in g) h live) (keeps_refuses P not_a_table place))

  abbrev KeepsAt : (Sort → Reading Value) → Type 0
  KeepsAt next = (s : Sort) → sort_is_live ns s ≡ true → Keeps P (next s)

  keeps_filled : (place : ℕ) (s : Sort) (f : Form) (next : Sort → Reading Value) → KeepsAt next → sort_is_live ns s ≡ true → Keeps P (filled place s f next)
  keeps_filled place bool f next rest live = keeps_refuses P model_sort place
  keeps_filled place int f next rest live = keeps_refuses P model_sort place
  keeps_filled place (bit_vector w) f next rest live = keeps_refuses P model_sort place
  keeps_filled place (free_sort s) f next rest live = keeps_refuses P model_sort place
  keeps_filled place (array i e) f next rest live =
      keeps_if P (is_sort_form (array i e) f) (next e >>= λ v. gives (table v no_pairs)) (refuses model_sort place)
      (keeps_then P (next e) (λ v. gives (table v no_pairs)) (rest e (both_true (sort_is_live ns i) (sort_is_live ns e) live).1) (λ v. keeps_gives P (table v no_pairs)))
      (keeps_refuses P model_sort place)

  keeps_two : (place : ℕ) (s : Sort) (l : Option Literal) (f : Option Form) (next : Sort → Reading Value) → KeepsAt next → sort_is_live ns s ≡ true → Keeps P (negative_or_filled place s l f next)
  keeps_two place s (Some l) f next rest live = keeps_rule P (literal_value place s (Some l))
  keeps_two place s None (Some f) next rest live = keeps_filled place s f next rest live
  keeps_two place s None None next rest live = keeps_refuses P not_a_table place

  keeps_stored : (place : ℕ) (s : Sort) (old key new : Sort → Reading Value) → KeepsAt old → KeepsAt key → KeepsAt new → sort_is_live ns s ≡ true → Keeps P (stored place s old key new)
  keeps_stored place bool old key new a k v live = keeps_refuses P model_sort place
  keeps_stored place int old key new a k v live = keeps_refuses P model_sort place
  keeps_stored place (bit_vector w) old key new a k v live = keeps_refuses P model_sort place
  keeps_stored place (free_sort s) old key new a k v live = keeps_refuses P model_sort place
  keeps_stored place (array i e) old key new a k v live =
      let parts = both_true (sort_is_live ns i) (sort_is_live ns e) live in
      keeps_then P (old (array i e)) (λ x. key i >>= λ y. new e >>= λ z. gives (store i (λ _. 1) x y z)) (a (array i e) live)
      (λ x. keeps_then P (key i) (λ y. new e >>= λ z. gives (store i (λ _. 1) x y z)) (k i parts.0)
      (λ y. keeps_then P (new e) (λ z. gives (store i (λ _. 1) x y z)) (v e parts.1) (λ z. keeps_gives P (store i (λ _. 1) x y z))))

  pub keeps_value : (f : Form) (s : Sort) → sort_is_live ns s ≡ true → Keeps P (value_in f s)
  keeps_value (atom t) s live = keeps_rule P (literal_value t.start s (atom_literal t))
  keeps_value (node place none) s live = keeps_refuses P not_a_table place
  keeps_value (node place (f ⨾ none)) s live = keeps_refuses P not_a_table place
  keeps_value (node place (f ⨾ v ⨾ none)) s live =
      keeps_two place s (negative_literal (symbol_in f) (numeral_in v)) (filled_sort f) (value_in v) (keeps_value v) live
  keeps_value (node place (f ⨾ g ⨾ h ⨾ none)) s live = keeps_qualified place s f g h live
  keeps_value (node place (f ⨾ a ⨾ k ⨾ v ⨾ none)) s live =
      keeps_if P (is_name (codes "store") (symbol_in f)) (stored place s (value_in a) (value_in k) (value_in v)) (refuses not_a_table place)
      (keeps_stored place s (value_in a) (value_in k) (value_in v) (keeps_value a) (keeps_value k) (keeps_value v) live) (keeps_refuses P not_a_table place)
  keeps_value (node place (f ⨾ a ⨾ k ⨾ v ⨾ w ⨾ ws)) s live = keeps_refuses P not_a_table place

  -- ---- tables

  abbrev AreLive : List Variable → Type 0
  AreLive xs = (x : Variable) → parameter_named xs x.name ≡ Some x → sort_is_live ns x.sort ≡ true

  keeps_side : (s : Sort) (side : Side) → sort_is_live ns s ≡ true → Keeps P (side_value s side)
  keeps_side s (holds b) live = keeps_gives P _
  keeps_side s (written f) live = keeps_value f s live

  pub keeps_keys : (xs : List Variable) (es : List Equation) → AreLive xs → AreEquationsOf xs es → Keeps P (keys_of es)
  keeps_keys xs [] live are = keeps_gives P []
  keeps_keys xs (e ∷ es) live are =
      keeps_then P (side_value e.parameter.sort e.side) (λ v. keys_of es >>= λ ks. gives (record { name = e.parameter.name; value = v } ∷ ks))
      (keeps_side e.parameter.sort e.side (live e.parameter are.0.named))
      (λ v. keeps_then P (keys_of es) (λ ks. gives (record { name = e.parameter.name; value = v } ∷ ks)) (keeps_keys xs es live are.1) (λ ks. keeps_gives P _))

  keeps_chosen : (place : ℕ) (xs : List Variable) (o : Option (List Equation)) → AreLive xs → ((es : List Equation) → o ≡ Some es → AreEquationsOf xs es) → Keeps P (condition_values place xs o)
  keeps_chosen place xs None live are = keeps_refuses P not_a_table place
  keeps_chosen place xs (Some es) live are =
      keeps_then P (keys_of es) (λ ks. gives (map (λ (x : Variable). key_named ks x.name) xs)) (keeps_keys xs es live (are es refl)) (λ ks. keeps_gives P _)

  pub keeps_condition : (xs : List Variable) (f : Form) → AreLive xs → Keeps P (condition xs f)
  keeps_condition xs f live = keeps_chosen (place_of f) xs (equations xs f) live (λ es h. (equations_are_of xs f es h).0)

  keeps_everywhere : (r : Reading Value) → Keeps P r → Keeps P (value_everywhere r)
  keeps_everywhere r first = keeps_then P r (λ v. gives (record { rows = []; otherwise = v })) first (λ v. keeps_gives P _)

  keeps_row : (keys : Reading (List Value)) (result : Reading Value) (body : Reading Graph) → Keeps P keys → Keeps P result → Keeps P body → Keeps P (row_first keys result body)
  keeps_row keys result body first second third =
      keeps_then P keys (λ ks. result >>= λ v. body >>= λ g. gives (record { rows = record { keys = ks; result = v } ∷ g.rows; otherwise = g.otherwise })) first
      (λ ks. keeps_then P result (λ v. body >>= λ g. gives (record { rows = record { keys = ks; result = v } ∷ g.rows; otherwise = g.otherwise })) second
      (λ v. keeps_then P body (λ g. gives (record { rows = record { keys = ks; result = v } ∷ g.rows; otherwise = g.otherwise })) third (λ g. keeps_gives P _)))

  pub keeps_body : (b : Form) (xs : List Variable) (s : Sort) → AreLive xs → sort_is_live ns s ≡ true → Keeps P (body_in b xs s)
  keeps_body (atom t) xs s live to = keeps_everywhere (value_in (atom t) s) (keeps_value (atom t) s to)
  keeps_body (node place none) xs s live to = keeps_everywhere (value_in (node place none) s) (keeps_value (node place none) s to)
  keeps_body (node place (f ⨾ none)) xs s live to = keeps_everywhere (value_in (node place (f ⨾ none)) s) (keeps_value (node place (f ⨾ none)) s to)
  keeps_body (node place (f ⨾ c ⨾ none)) xs s live to = keeps_everywhere (value_in (node place (f ⨾ c ⨾ none)) s) (keeps_value (node place (f ⨾ c ⨾ none)) s to)
  keeps_body (node place (f ⨾ c ⨾ v ⨾ none)) xs s live to =
      keeps_everywhere (value_in (node place (f ⨾ c ⨾ v ⨾ none)) s) (keeps_value (node place (f ⨾ c ⨾ v ⨾ none)) s to)
  keeps_body (node place (f ⨾ c ⨾ v ⨾ b ⨾ none)) xs s live to =
      keeps_if P (is_name (codes "ite") (symbol_in f)) (row_first (condition xs c) (value_in v s) (body_in b xs s)) (value_everywhere (value_in (node place (f ⨾ c ⨾ v ⨾ b ⨾ none)) s))
      (keeps_row (condition xs c) (value_in v s) (body_in b xs s) (keeps_condition xs c live) (keeps_value v s to) (keeps_body b xs s live to))
      (keeps_everywhere (value_in (node place (f ⨾ c ⨾ v ⨾ b ⨾ none)) s) (keeps_value (node place (f ⨾ c ⨾ v ⨾ b ⨾ none)) s to))
  keeps_body (node place (f ⨾ c ⨾ v ⨾ b ⨾ w ⨾ ws)) xs s live to =
      keeps_everywhere (value_in (node place (f ⨾ c ⨾ v ⨾ b ⨾ w ⨾ ws)) s) (keeps_value (node place (f ⨾ c ⨾ v ⨾ b ⨾ w ⨾ ws)) s to)

  -- ---- entries

  pub live_variables : (ss : List Sort) (ps : List Parameter) (n : Name) (x : Variable) → list_all (sort_is_live ns) ss ≡ true → parameter_named (variables ss ps) n ≡ Some x → sort_is_live ns x.sort ≡ true
  live_variables [] ps n x live h = absurd (none-some x h)
  live_variables (s ∷ ss) [] n x live h = absurd (none-some x h)
  live_variables (s ∷ ss) (p ∷ ps) n x live h =
      let parts = both_true (sort_is_live ns s) (list_all (sort_is_live ns) ss) live in
      by (name_eq p.name n) h parts.0 (live_variables ss ps n x parts.1)
    where
      by : (b : Bool) → (if b then Some (record { name = p.name; sort = s }) else parameter_named (variables ss ps) n) ≡ Some x → sort_is_live ns s ≡ true
          → (parameter_named (variables ss ps) n ≡ Some x → sort_is_live ns x.sort ≡ true) → sort_is_live ns x.sort ≡ true
      by true h here rest = ap (λ (y : Variable). sort_is_live ns y.sort) (sym (same_Some (record { name = p.name; sort = s }) x h)) ∙ here
      by false h here rest = rest h

  keeps_table : (gs : List Given) (f : Symbol) (ps : List Parameter) (b : Form) → rank_is_live ns f ≡ true → Keeps P (with_table gs f ps b)
  keeps_table gs f ps b live =
      let parts = both_true (sort_is_live ns f.result) (list_all (sort_is_live ns) f.args) live in
      keeps_then P (body_in b (variables f.args ps) f.result) (λ g. gives (gs ++ record { name = f.name; graph = g } ∷ []))
      (keeps_body b (variables f.args ps) f.result (λ x h. live_variables f.args ps x.name x parts.1 h) parts.0) (λ g. keeps_gives P _)

  keeps_function : (place : ℕ) (gs : List Given) (o : Option Symbol) (ps : List Parameter) (s b : Form) → ((f : Symbol) → o ≡ Some f → rank_is_live ns f ≡ true) → Keeps P (function_given place gs o ps s b)
  keeps_function place gs None ps s b live = keeps_gives P gs
  keeps_function place gs (Some f) ps s b live =
      let fits = have_sorts f.args ps && is_sort_form f.result s in
      keeps_if P (is_among (map (λ g. g.name) gs) f.name) (refuses model_twice place) (if fits then with_table gs f ps b else refuses model_sort place)
      (keeps_refuses P model_twice place)
      (keeps_if P fits (with_table gs f ps b) (refuses model_sort place) (keeps_table gs f ps b (live f refl)) (keeps_refuses P model_sort place))

  keeps_met : (s : Sort) (fs : Forms) (gs : List Given) → sort_is_live ns s ≡ true → Keeps P (elements_met s fs gs)
  keeps_met s none gs live = keeps_gives P gs
  keeps_met s (f ⨾ fs) gs live = keeps_then P (value_in f s) (λ v. elements_met s fs gs) (keeps_value f s live) (λ v. keeps_met s fs gs live)

  keeps_sort : (ms : List Name) (f : Form) (vs : Forms) (gs : List Given) → ((n : Name) → is_among ms n ≡ true → is_among ns n ≡ true) → Keeps P (sort_given ms f vs gs)
  keeps_sort [] f vs gs within = keeps_gives P gs
  keeps_sort (n ∷ ms) f vs gs within =
      keeps_if P (is_sort_form (free_sort n) f) (elements_met (free_sort n) vs gs) (sort_given ms f vs gs)
      (keeps_met (free_sort n) vs gs (within n (left_true (name_eq n n) (is_among ms n) (name_itself n))))
      (keeps_sort ms f vs gs (λ m h. within m (right_true (name_eq m n) (is_among ms m) h)))

-- ---- the symbols of a signature

module _ (sig : Signature) (proper : IsProper sig) where
  every_rank : (fs : List Symbol) (n : Name) (f : Symbol) → list_all (rank_is_live sig.sorts) fs ≡ true → symbol_among fs n ≡ Some f → rank_is_live sig.sorts f ≡ true
  every_rank [] n f all h = absurd (none-some f h)
  every_rank (g ∷ fs) n f all h =
      let parts = both_true (rank_is_live sig.sorts g) (list_all (rank_is_live sig.sorts) fs) all in
      by (name_eq g.name n) h parts.0 (every_rank fs n f parts.1)
    where
      by : (b : Bool) → (if b then Some g else symbol_among fs n) ≡ Some f → rank_is_live sig.sorts g ≡ true → (symbol_among fs n ≡ Some f → rank_is_live sig.sorts f ≡ true) → rank_is_live sig.sorts f ≡ true
      by true h here rest = ap (rank_is_live sig.sorts) (sym (same_Some g f h)) ∙ here
      by false h here rest = rest h

  pub rank_of_named : (n : Name) (f : Symbol) → symbol_named sig n ≡ Some f → rank_is_live sig.sorts f ≡ true
  rank_of_named n f h = by (is_table_name n) h
    where
      by : (b : Bool) → (if b then Some (table_symbol n) else symbol_among sig.symbols n) ≡ Some f → rank_is_live sig.sorts f ≡ true
      by true h = ap (rank_is_live sig.sorts) (sym (same_Some (table_symbol n) f h))
      by false h = every_rank sig.symbols n f proper.ranks h

  module _ (P : List Element → Type 0) (met : (s n : Name) (es : List Element) → is_among sig.sorts s ≡ true → P es → P (with_element s n es)) where
    pub keeps_entry : (gs : List Given) (place : ℕ) (e : Option Entry) → Keeps P (entry_given sig gs place e)
    keeps_entry gs place None = keeps_refuses P model_form place
    keeps_entry gs place (Some sort_name) = keeps_gives P gs
    keeps_entry gs place (Some (elements s vs)) = keeps_sort sig.sorts P met sig.sorts s vs gs (λ n h. h)
    keeps_entry gs place (Some (function n ps s b)) = keeps_function sig.sorts P met place gs (symbol_named sig n) ps s b (rank_of_named n)

    pub keeps_entries : (gs : List Given) (fs : Forms) → Keeps P (entries_given sig gs fs)
    keeps_entries gs none = keeps_gives P gs
    keeps_entries gs (f ⨾ fs) =
        keeps_then P (entry_given sig gs (place_of f) (entry_in f)) (λ hs. entries_given sig hs fs) (keeps_entry gs (place_of f) (entry_in f)) (λ hs. keeps_entries hs fs)
