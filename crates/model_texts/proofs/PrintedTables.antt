-- The texts of parameters, of conditions and of rows, one by one.
use Rattle.std.proofs.Common.{◌≡◌, ℕ, zero, suc, ◌+◌, ◌<◌, ◌≤◌, Bool, true, false, List, [], ◌∷◌, ◌++◌, map, length, get_or, drop, ℤ, to_z, of_z, FitsSigned, ◌^◌, not, Some, true≢false, refl, ap, sym, ◌∙◌, subst, arith, append_assoc, append-nil}
use Rattle.std.specs.Prelude.{◌==◌, ◌&&◌, codes, if◌then◌else◌, slice_get, All, option_map, unsigned_abs, flat_map}
use Rattle.std.specs.Int.{w128}
use Rattle.std.proofs.lemmas.Int.{to_z-of_z, ints}
use Rattle.std.specs.List.{list_all}
use Rattle.std.proofs.lemmas.Bool.Decides.{nat_tests}
use Rattle.std.proofs.lemmas.List.{drop_all, length-map, get_or-map}
use Rattle.std.proofs.lemmas.List.Elements.{All-get_or}
use Rattle.std.proofs.lemmas.Option.{slice_get-map}
use Rattle.smt_lex.specs.Lexicon.{space}
use Rattle.smt_lex.specs.Forms.{Form, forms_of_list}
use Rattle.smt_lex.specs.FormText.{form_text, forms_text, further_text}
use Rattle.smt_lex.specs.Names.{is_syntax_word, is_command_word, printed_symbol}
use Rattle.smt_terms.specs.declared.ids.SortId.{SortId}
use Rattle.smt_terms.specs.Models.{Row, Graph, NumberRow, NumberGraph, distinct_rows, rows_allowed}
use Rattle.smt_terms.specs.Sorts.{Name, Sort, bool, int, Symbol, Variable}
use Rattle.smt_terms.specs.Values as plain
use Rattle.smt_terms.specs.Values.{Sizes, is_value, are_values}
use Rattle.smt_terms.proofs.Tests.{both_true}
use Rattle.smt_values.specs.Meaning.{meaning, IsHeld}
use Rattle.smt_values.specs.SortIds.{sort_at}
use Rattle.smt_values.specs.declared.value.Value.{Value}
use Rattle.term_table.specs.WrittenForms.{list_form, word_form, sort_form, variable_form, integer_form}
use Rattle.models.specs.GraphRows.{meanings}
use Rattle.models.specs.NumberRows.{IsWithin}
use Rattle.model_texts.specs.ModelLines.{parameter_name, parameters, equation_forms, condition_form, rows_form, value_form, function_form, row_of, graph_of, is_there, table_entries, line_of}
use Rattle.model_texts.specs.Entries.{table_symbol}
use Rattle.model_texts.specs.Printing.{repeated, equation_form, IsOfSort, AreOfSorts, AreRowsOf, IsGraphOf}
use Rattle.model_texts.proofs.PrintedNames.{parameter_printed}
use Rattle.model_texts.proofs.PrintedValues.{repeated-push}

-- ---- parameters

pub parameter_text : (k : ℕ) (s : Sort) (old a b c d new : List ℕ) → a ≡ old ++ 40 ∷ [] → b ≡ a ++ parameter_name k → c ≡ b ++ 32 ∷ [] → d ≡ c ++ form_text (sort_form s) → new ≡ d ++ 41 ∷ []
    → new ≡ old ++ form_text (variable_form (record { name = parameter_name k; sort = s }))
parameter_text k s old a b c d new is_a is_b is_c is_d is_new =
    is_new ∙ ap (λ xs. xs ++ 41 ∷ []) (is_d ∙ ap (λ xs. xs ++ form_text (sort_form s)) (is_c ∙ ap (λ xs. xs ++ 32 ∷ []) (is_b ∙ ap (λ xs. xs ++ parameter_name k) is_a)))
    ∙ joined old (parameter_name k) (form_text (sort_form s))
    ∙ ap (λ n. old ++ (40 ∷ ((n ++ (32 ∷ (form_text (sort_form s) ++ []))) ++ 41 ∷ []))) (sym (parameter_printed k))
  where
    joined : (old n s : List ℕ) → ((((old ++ 40 ∷ []) ++ n) ++ 32 ∷ []) ++ s) ++ 41 ∷ [] ≡ old ++ (40 ∷ ((n ++ (32 ∷ (s ++ []))) ++ 41 ∷ []))
    joined old n s = simp (append_assoc, append-nil)

parameters-drop : (n i : ℕ) (ss : List Sort) (d : Sort) → i < length ss → drop i (parameters n ss) ≡ record { name = parameter_name (n + i); sort = get_or ss i d } ∷ drop (suc i) (parameters n ss)
parameters-drop n i [] d lt = absurd (omega arith)
parameters-drop n zero (s ∷ ss) d lt = let same : n ≡ n + 0 = omega arith in ap (λ k. record { name = parameter_name k; sort = s } ∷ parameters (suc n) ss) same
parameters-drop n (suc i) (s ∷ ss) d lt =
    let same : suc n + i ≡ n + suc i = omega arith in
    parameters-drop (suc n) i ss d (omega arith) ∙ ap (λ k. record { name = parameter_name k; sort = get_or ss i d } ∷ drop (suc i) (parameters (suc n) ss)) same

first-parameters : (i : ℕ) (ss : List Sort) (d : Sort) → i < length ss → drop i (parameters 0 ss) ≡ record { name = parameter_name i; sort = get_or ss i d } ∷ drop (suc i) (parameters 0 ss)
first-parameters i ss d lt =
    let same : 0 + i ≡ i = omega arith in
    parameters-drop 0 i ss d lt ∙ ap (λ k. record { name = parameter_name k; sort = get_or ss i d } ∷ drop (suc i) (parameters 0 ss)) same

length-parameters : (n : ℕ) (ss : List Sort) → length (parameters n ss) ≡ length ss
length-parameters n [] = refl
length-parameters n (s ∷ ss) = ap suc (length-parameters (suc n) ss)

abbrev pub separator : ℕ → List ℕ
separator i = if i == 0 then [] else space ∷ []

separator-suc : (n : ℕ) → separator (suc n) ≡ space ∷ []
separator-suc n = grind (arith, nat_tests)

-- the forms of a list from a place on
abbrev pub listed : ℕ → List Form → List ℕ
listed zero fs = forms_text (forms_of_list fs)
listed (suc i) fs = further_text (forms_of_list fs)

listed-more : (i : ℕ) (f : Form) (fs : List Form) → listed i (f ∷ fs) ≡ separator i ++ (form_text f ++ listed (suc i) fs)
listed-more zero f fs = refl
listed-more (suc i) f fs = ap (λ xs. xs ++ (form_text f ++ further_text (forms_of_list fs))) (sym (separator-suc i))

listed-none : (i : ℕ) → listed i [] ≡ []
listed-none zero = refl
listed-none (suc i) = refl

-- what is left of the parameters at a place
abbrev pub parameters_left : ℕ → List Sort → List ℕ
parameters_left i ss = listed i (map variable_form (drop i (parameters 0 ss))) ++ 41 ∷ []

pub parameters-begin : (ss : List Sort) (old new : List ℕ) → new ≡ old ++ 40 ∷ [] → new ++ parameters_left 0 ss ≡ old ++ form_text (list_form (map variable_form (parameters 0 ss)))
parameters-begin ss old new is = ap (λ xs. xs ++ parameters_left 0 ss) is ∙ append_assoc old (40 ∷ []) (parameters_left 0 ss)

pub parameters-more : (ss : List Sort) (i : ℕ) (d : Sort) (now between new whole : List ℕ) → i < length ss → between ≡ now ++ separator i
    → new ≡ between ++ form_text (variable_form (record { name = parameter_name i; sort = get_or ss i d })) → now ++ parameters_left i ss ≡ whole → new ++ parameters_left (i + 1) ss ≡ whole
parameters-more ss i d now between new whole lt is_between is_new before =
    let x : Variable = record { name = parameter_name i; sort = get_or ss i d } in
    let others = map variable_form (drop (suc i) (parameters 0 ss)) in
    let one : i + 1 ≡ suc i = omega arith in
    ap (λ n. new ++ parameters_left n ss) one
    ∙ ap (λ xs. xs ++ parameters_left (suc i) ss) (is_new ∙ ap (λ xs. xs ++ form_text (variable_form x)) is_between)
    ∙ joined now (separator i) (form_text (variable_form x)) (listed (suc i) others)
    ∙ ap (λ xs. now ++ (xs ++ 41 ∷ [])) (sym (listed-more i (variable_form x) others))
    ∙ ap (λ ys. now ++ (listed i (map variable_form ys) ++ 41 ∷ [])) (sym (first-parameters i ss d lt))
    ∙ before
  where
    joined : (now a b rest : List ℕ) → ((now ++ a) ++ b) ++ (rest ++ 41 ∷ []) ≡ now ++ ((a ++ (b ++ rest)) ++ 41 ∷ [])
    joined now a b rest = simp append_assoc

pub parameters-end : (ss : List Sort) (i : ℕ) (now new whole : List ℕ) → length ss ≤ i → now ++ parameters_left i ss ≡ whole → new ≡ now ++ 41 ∷ [] → new ≡ whole
parameters-end ss i now new whole past before is =
    let none : drop i (parameters 0 ss) ≡ [] = drop_all i (parameters 0 ss) (let e = length-parameters 0 ss in omega (arith, e)) in
    is ∙ ap (λ xs. now ++ (xs ++ 41 ∷ [])) (sym (ap (λ ys. listed i (map variable_form ys)) none ∙ listed-none i)) ∙ before

-- ---- conditions

equations-drop : (n i : ℕ) (ss : List Sort) (vs : List plain.Value) (d : Sort) (e : plain.Value) → i < length vs → length vs ≡ length ss
    → drop i (equation_forms (parameters n ss) vs) ≡ equation_form (n + i) (get_or ss i d) (get_or vs i e) ∷ drop (suc i) (equation_forms (parameters n ss) vs)
equations-drop n i [] [] d e lt same = absurd (omega arith)
equations-drop n i [] (v ∷ vs) d e lt same = absurd (omega (arith, same))
equations-drop n i (s ∷ ss) [] d e lt same = absurd (omega arith)
equations-drop n zero (s ∷ ss) (v ∷ vs) d e lt same = let number : n ≡ n + 0 = omega arith in ap (λ k. equation_form k s v ∷ equation_forms (parameters (suc n) ss) vs) number
equations-drop n (suc i) (s ∷ ss) (v ∷ vs) d e lt same =
    let number : suc n + i ≡ n + suc i = omega arith in
    equations-drop (suc n) i ss vs d e (omega arith) (omega (arith, same))
    ∙ ap (λ k. equation_form k (get_or ss i d) (get_or vs i e) ∷ drop (suc i) (equation_forms (parameters (suc n) ss) vs)) number

first-equations : (i : ℕ) (ss : List Sort) (vs : List plain.Value) (d : Sort) (e : plain.Value) → i < length vs → length vs ≡ length ss
    → drop i (equation_forms (parameters 0 ss) vs) ≡ equation_form i (get_or ss i d) (get_or vs i e) ∷ drop (suc i) (equation_forms (parameters 0 ss) vs)
first-equations i ss vs d e lt same =
    let number : 0 + i ≡ i = omega arith in
    equations-drop 0 i ss vs d e lt same ∙ ap (λ k. equation_form k (get_or ss i d) (get_or vs i e) ∷ drop (suc i) (equation_forms (parameters 0 ss) vs)) number

length-equations : (n : ℕ) (ss : List Sort) (vs : List plain.Value) → length vs ≡ length ss → length (equation_forms (parameters n ss) vs) ≡ length vs
length-equations n [] [] same = refl
length-equations n [] (v ∷ vs) same = absurd (omega (arith, same))
length-equations n (s ∷ ss) [] same = refl
length-equations n (s ∷ ss) (v ∷ vs) same = ap suc (length-equations (suc n) ss vs (omega (arith, same)))

-- as many values as sorts
pub as_many : (ss : List Sort) (sizes : Sizes) (vs : List plain.Value) → are_values ss sizes vs ≡ true → length vs ≡ length ss
as_many [] sizes [] h = refl
as_many [] sizes (v ∷ vs) h = absurd cc
as_many (s ∷ ss) sizes [] h = absurd cc
as_many (s ∷ ss) sizes (v ∷ vs) h = ap suc (as_many ss sizes vs (both_true (is_value s sizes v) (are_values ss sizes vs) h).1)

pub same_number : (ss : List Sort) (vs : List Value) → AreOfSorts ss vs → length (meanings vs) ≡ length ss
same_number ss vs are = as_many ss are.0 (meanings vs) are.1.valid

pub one_condition : (ss : List Sort) (vs : List plain.Value) (d : Sort) (e : plain.Value) → length vs ≡ 1 → length vs ≡ length ss
    → equation_form 0 (get_or ss 0 d) (get_or vs 0 e) ≡ condition_form (equation_forms (parameters 0 ss) vs)
one_condition [] vs d e one same = absurd (omega (arith, one, same))
one_condition (s ∷ ss) [] d e one same = absurd (omega (arith, one))
one_condition (s ∷ ss) (v ∷ w ∷ vs) d e one same = absurd (omega (arith, one))
one_condition (s ∷ t ∷ ss) (v ∷ []) d e one same = absurd (omega (arith, same))
one_condition (s ∷ []) (v ∷ []) d e one same = refl

several : (fs : List Form) → (length fs ≡ 1 → ⊥) → condition_form fs ≡ list_form (word_form (codes "and") ∷ fs)
several [] many = refl
several (f ∷ []) many = absurd (many refl)
several (f ∷ g ∷ fs) many = refl

-- what is left of several equations at a place
abbrev pub equations_left : ℕ → List Sort → List plain.Value → List ℕ
equations_left i ss vs = further_text (forms_of_list (drop i (equation_forms (parameters 0 ss) vs))) ++ 41 ∷ []

pub equations-begin : (ss : List Sort) (vs : List plain.Value) (old new : List ℕ) → (length vs ≡ 1 → ⊥) → length vs ≡ length ss → new ≡ old ++ codes "(and"
    → new ++ equations_left 0 ss vs ≡ old ++ form_text (condition_form (equation_forms (parameters 0 ss) vs))
equations-begin ss vs old new many same is =
    ap (λ xs. xs ++ equations_left 0 ss vs) is ∙ append_assoc old (codes "(and") (equations_left 0 ss vs)
    ∙ ap (λ f. old ++ form_text f) (sym (several (equation_forms (parameters 0 ss) vs) (λ one. many (sym (length-equations 0 ss vs same) ∙ one))))

pub equations-more : (ss : List Sort) (vs : List plain.Value) (i : ℕ) (d : Sort) (e : plain.Value) (now between new whole : List ℕ) → i < length vs → length vs ≡ length ss → between ≡ now ++ 32 ∷ []
    → new ≡ between ++ form_text (equation_form i (get_or ss i d) (get_or vs i e)) → now ++ equations_left i ss vs ≡ whole → new ++ equations_left (i + 1) ss vs ≡ whole
equations-more ss vs i d e now between new whole lt same is_between is_new before =
    let f = equation_form i (get_or ss i d) (get_or vs i e) in
    let one : i + 1 ≡ suc i = omega arith in
    ap (λ n. new ++ equations_left n ss vs) one
    ∙ ap (λ xs. xs ++ equations_left (suc i) ss vs) (is_new ∙ ap (λ xs. xs ++ form_text f) is_between)
    ∙ joined now (form_text f) (further_text (forms_of_list (drop (suc i) (equation_forms (parameters 0 ss) vs))))
    ∙ ap (λ fs. now ++ (further_text (forms_of_list fs) ++ 41 ∷ [])) (sym (first-equations i ss vs d e lt same))
    ∙ before
  where
    joined : (now a rest : List ℕ) → ((now ++ 32 ∷ []) ++ a) ++ (rest ++ 41 ∷ []) ≡ now ++ ((32 ∷ (a ++ rest)) ++ 41 ∷ [])
    joined now a rest = simp append_assoc

pub equations-end : (ss : List Sort) (vs : List plain.Value) (i : ℕ) (now new whole : List ℕ) → length vs ≤ i → length vs ≡ length ss → now ++ equations_left i ss vs ≡ whole → new ≡ now ++ 41 ∷ [] → new ≡ whole
equations-end ss vs i now new whole past same before is =
    let none : drop i (equation_forms (parameters 0 ss) vs) ≡ [] = drop_all i (equation_forms (parameters 0 ss) vs) (let e = length-equations 0 ss vs same in omega (arith, e)) in
    is ∙ ap (λ fs. now ++ (further_text (forms_of_list fs) ++ 41 ∷ [])) (sym none) ∙ before

-- values of sorts, at a place

are_values-at : (ss : List Sort) (sizes : Sizes) (vs : List plain.Value) (i : ℕ) (d : Sort) (e : plain.Value) → i < length vs → are_values ss sizes vs ≡ true → is_value (get_or ss i d) sizes (get_or vs i e) ≡ true
are_values-at [] sizes [] i d e lt h = absurd (omega arith)
are_values-at [] sizes (v ∷ vs) i d e lt h = absurd cc
are_values-at (s ∷ ss) sizes [] i d e lt h = absurd (omega arith)
are_values-at (s ∷ ss) sizes (v ∷ vs) zero d e lt h = (both_true (is_value s sizes v) (are_values ss sizes vs) h).0
are_values-at (s ∷ ss) sizes (v ∷ vs) (suc i) d e lt h = are_values-at ss sizes vs i d e (omega arith) (both_true (is_value s sizes v) (are_values ss sizes vs) h).1

pub key_meant : (vs : List Value) (i : ℕ) (v : Value) → i < length vs → v ≡ get_or vs i v → meaning v ≡ get_or (meanings vs) i (meaning v)
key_meant vs i v lt is = ap meaning is ∙ sym (get_or-map meaning vs i v (meaning v) lt)

module _ (sorts : List Sort) (ids : List SortId) where
  pub sort_meant : (i : ℕ) (k : SortId) → i < length ids → sort_at sorts (get_or ids i k) ≡ get_or (map (sort_at sorts) ids) i bool
  sort_meant i k lt = sym (get_or-map (sort_at sorts) ids i k bool lt)

  module _ (vs : List Value) (are : AreOfSorts (map (sort_at sorts) ids) vs) where
    pub as_many_sorts : length vs ≡ length ids
    as_many_sorts = sym (length-map vs meaning) ∙ same_number (map (sort_at sorts) ids) vs are ∙ length-map ids (sort_at sorts)

    pub key_of_its_sort : (i : ℕ) (k : SortId) (v : Value) → i < length vs → v ≡ get_or vs i v → IsOfSort (sort_at sorts (get_or ids i k)) v
    key_of_its_sort i k v lt is =
        let within : i < length ids = let e = as_many_sorts in omega (arith, lt, e) in
        let held : IsHeld v = subst IsHeld (sym is) (All-get_or IsHeld vs i v lt are.1.held) in
        let valid : is_value (get_or (map (sort_at sorts) ids) i bool) are.0 (get_or (meanings vs) i (meaning v)) ≡ true =
        are_values-at (map (sort_at sorts) ids) are.0 (meanings vs) i bool (meaning v) (let e = length-map vs meaning in omega (arith, lt, e)) are.1.valid
        in
        (are.0, record { held = held; valid = (λ j. is_value (sort_meant i k within j) are.0 (key_meant vs i v lt is j)) ∙ valid })

-- ---- rows

module _ (xs : List Variable) (to : Sort) where
  -- the beginning of an `ite`
  abbrev pub row_text : Row → List ℕ
  row_text r = codes "(ite " ++ (form_text (condition_form (equation_forms xs r.keys)) ++ (32 ∷ (form_text (value_form to r.result) ++ 32 ∷ [])))

  abbrev pub rows_text : List Row → List ℕ
  rows_text [] = []
  rows_text (r ∷ rows) = row_text r ++ rows_text rows

  ite_text : (c v f : Form) → form_text (list_form (word_form (codes "ite") ∷ c ∷ v ∷ f ∷ [])) ≡ (codes "(ite " ++ (form_text c ++ (32 ∷ (form_text v ++ 32 ∷ [])))) ++ (form_text f ++ 41 ∷ [])
  ite_text c v f = joined (form_text c) (form_text v) (form_text f)
    where
      joined : (c v f : List ℕ) → codes "(ite " ++ ((c ++ (32 ∷ (v ++ (32 ∷ (f ++ []))))) ++ 41 ∷ []) ≡ (codes "(ite " ++ (c ++ (32 ∷ (v ++ 32 ∷ [])))) ++ (f ++ 41 ∷ [])
      joined c v f = simp (append_assoc, append-nil)

  pub rows_form-text : (rows : List Row) (otherwise : Form) → form_text (rows_form xs to rows otherwise) ≡ rows_text rows ++ (form_text otherwise ++ repeated (length rows) (41 ∷ []))
  rows_form-text [] otherwise = sym (append-nil (form_text otherwise))
  rows_form-text (r ∷ rows) otherwise =
      ite_text (condition_form (equation_forms xs r.keys)) (value_form to r.result) (rows_form xs to rows otherwise)
      ∙ ap (λ ys. row_text r ++ (ys ++ 41 ∷ [])) (rows_form-text rows otherwise)
      ∙ joined (row_text r) (rows_text rows) (form_text otherwise) (repeated (length rows) (41 ∷ []))
      ∙ ap (λ ys. (row_text r ++ rows_text rows) ++ (form_text otherwise ++ ys)) (sym (repeated-push (length rows) (41 ∷ [])))
    where
      joined : (a b c d : List ℕ) → a ++ ((b ++ (c ++ d)) ++ 41 ∷ []) ≡ (a ++ b) ++ (c ++ (d ++ 41 ∷ []))
      joined a b c d = simp append_assoc

  -- what is left of the rows at a place
  abbrev pub rows_left : ℕ → List Row → Form → List ℕ
  rows_left i rows otherwise = rows_text (drop i rows) ++ (form_text otherwise ++ repeated (length rows) (41 ∷ []))

  drop-row : (rows : List Row) (i : ℕ) (r : Row) → slice_get rows i ≡ Some r → drop i rows ≡ r ∷ drop (suc i) rows
  drop-row [] i r at = absurd cc
  drop-row (q ∷ rows) zero r at = let same : q ≡ r = cc in ap (λ p. p ∷ rows) same
  drop-row (q ∷ rows) (suc i) r at = drop-row rows i r at

  pub rows-begin : (rows : List Row) (otherwise : Form) (old : List ℕ) → old ++ rows_left 0 rows otherwise ≡ old ++ form_text (rows_form xs to rows otherwise)
  rows-begin rows otherwise old = ap (λ ys. old ++ ys) (sym (rows_form-text rows otherwise))

  pub rows-more : (rows : List Row) (otherwise : Form) (i : ℕ) (r : Row) (now new whole : List ℕ) → slice_get rows i ≡ Some r → new ≡ now ++ row_text r
      → now ++ rows_left i rows otherwise ≡ whole → new ++ rows_left (i + 1) rows otherwise ≡ whole
  rows-more rows otherwise i r now new whole at is before =
      let one : i + 1 ≡ suc i = omega arith in
      let rest = form_text otherwise ++ repeated (length rows) (41 ∷ []) in
      ap (λ n. new ++ rows_left n rows otherwise) one ∙ ap (λ ys. ys ++ rows_left (suc i) rows otherwise) is
      ∙ joined now (row_text r) (rows_text (drop (suc i) rows)) rest
      ∙ ap (λ qs. now ++ (rows_text qs ++ rest)) (sym (drop-row rows i r at)) ∙ before
    where
      joined : (now a b c : List ℕ) → (now ++ a) ++ (b ++ c) ≡ now ++ ((a ++ b) ++ c)
      joined now a b c = simp append_assoc

  -- the parts of a row, one after the other
  pub row_joined : (r : Row) (now a b c d new : List ℕ) → a ≡ now ++ codes "(ite " → b ≡ a ++ form_text (condition_form (equation_forms xs r.keys)) → c ≡ b ++ 32 ∷ [] → d ≡ c ++ form_text (value_form to r.result) → new ≡ d ++ 32 ∷ []
      → new ≡ now ++ row_text r
  row_joined r now a b c d new is_a is_b is_c is_d is_new =
      is_new ∙ ap (λ ys. ys ++ 32 ∷ []) (is_d ∙ ap (λ ys. ys ++ form_text (value_form to r.result)) (is_c ∙ ap (λ ys. ys ++ 32 ∷ []) (is_b ∙ ap (λ ys. ys ++ form_text (condition_form (equation_forms xs r.keys))) is_a)))
      ∙ joined now (form_text (condition_form (equation_forms xs r.keys))) (form_text (value_form to r.result))
    where
      joined : (now c v : List ℕ) → ((((now ++ codes "(ite ") ++ c) ++ 32 ∷ []) ++ v) ++ 32 ∷ [] ≡ now ++ (codes "(ite " ++ (c ++ (32 ∷ (v ++ 32 ∷ []))))
      joined now c v = simp append_assoc

  pub rows-end : (rows : List Row) (otherwise : Form) (i n : ℕ) (now between new whole : List ℕ) → length rows ≤ i → n ≡ length rows → now ++ rows_left i rows otherwise ≡ whole
      → between ≡ now ++ form_text otherwise → new ≡ between ++ repeated n (41 ∷ []) → new ≡ whole
  rows-end rows otherwise i n now between new whole past many before is_between is_new =
      is_new ∙ ap (λ ys. ys ++ repeated n (41 ∷ [])) is_between ∙ append_assoc now (form_text otherwise) (repeated n (41 ∷ []))
      ∙ ap (λ k. now ++ (form_text otherwise ++ repeated k (41 ∷ []))) many
      ∙ ap (λ qs. now ++ (rows_text qs ++ (form_text otherwise ++ repeated (length rows) (41 ∷ [])))) (sym (drop_all i rows past)) ∙ before

-- ---- valid rows

row_valid : (args : List Sort) (to : Sort) (sizes : Sizes) (rows : List Row) (i : ℕ) (r : Row) → slice_get rows i ≡ Some r
    → list_all (λ r. are_values args sizes r.keys && is_value to sizes r.result) rows ≡ true → (are_values args sizes r.keys ≡ true) × (is_value to sizes r.result ≡ true)
row_valid args to sizes [] i r at all = absurd cc
row_valid args to sizes (q ∷ rows) zero r at all =
    let same : q ≡ r = cc in
    let first = both_true (are_values args sizes q.keys && is_value to sizes q.result) (list_all (λ r. are_values args sizes r.keys && is_value to sizes r.result) rows) all in
    both_true (are_values args sizes r.keys) (is_value to sizes r.result) (subst (λ (p : Row). (are_values args sizes p.keys && is_value to sizes p.result) ≡ true) same first.0)
row_valid args to sizes (q ∷ rows) (suc i) r at all =
    row_valid args to sizes rows i r at (both_true (are_values args sizes q.keys && is_value to sizes q.result) (list_all (λ r. are_values args sizes r.keys && is_value to sizes r.result) rows) all).1

module _ (args : List Sort) (to : Sort) (g : Graph) (are : AreRowsOf args to g) where
  pub keys_of_sorts : (i : ℕ) (ks : List Value) (v : Value) → All IsHeld ks → slice_get g.rows i ≡ Some (record { keys = meanings ks; result = meaning v }) → AreOfSorts args ks
  keys_of_sorts i ks v held at = (are.0, record { held = held; valid = (row_valid args to are.0 g.rows i (record { keys = meanings ks; result = meaning v }) at are.2).0 })

  pub result_of_sort : (i : ℕ) (ks : List Value) (v : Value) → IsHeld v → slice_get g.rows i ≡ Some (record { keys = meanings ks; result = meaning v }) → IsOfSort to v
  result_of_sort i ks v held at = (are.0, record { held = held; valid = (row_valid args to are.0 g.rows i (record { keys = meanings ks; result = meaning v }) at are.2).1 })

  pub otherwise_of_sort : (v : Value) → IsHeld v → meaning v ≡ g.otherwise → IsOfSort to v
  otherwise_of_sort v held is = (are.0, record { held = held; valid = ap (is_value to are.0) is ∙ are.1 })

pub rows_of_graph : (f : Symbol) (g : Graph) → IsGraphOf f g → AreRowsOf f.args f.result g
rows_of_graph f g is =
    let sizes = is.0 in
    let fit = list_all (λ r. are_values f.args sizes r.keys && is_value f.result sizes r.result) g.rows in
    let first = both_true (is_value f.result sizes g.otherwise) (fit && (distinct_rows f.args sizes g.rows && rows_allowed f.args g.rows)) is.1 in
    (sizes, first.0, (both_true fit (distinct_rows f.args sizes g.rows && rows_allowed f.args g.rows) first.1).0)

-- the same, by the sorts that a symbol has
pub rows_of_rank : (f : Symbol) (args : List Sort) (to : Sort) (g : Graph) → args ≡ f.args → to ≡ f.result → IsGraphOf f g → AreRowsOf args to g
rows_of_rank f args to g same_args same_to is = subst (λ ss. AreRowsOf ss to g) (sym same_args) (subst (λ s. AreRowsOf f.args s g) (sym same_to) (rows_of_graph f g is))

-- ---- definitions

pub function_text : (n : Name) (args : List Sort) (to : Sort) (g : Graph) (old a b c d e f h j new : List ℕ) → a ≡ old ++ codes "(define-fun " → b ≡ a ++ printed_symbol n → c ≡ b ++ 32 ∷ []
    → d ≡ c ++ form_text (list_form (map variable_form (parameters 0 args))) → e ≡ d ++ 32 ∷ [] → f ≡ e ++ form_text (sort_form to) → h ≡ f ++ 32 ∷ []
    → j ≡ h ++ form_text (rows_form (parameters 0 args) to g.rows (value_form to g.otherwise)) → new ≡ j ++ 41 ∷ []
    → new ≡ old ++ form_text (function_form (record { name = n; args = args; result = to }) g)
function_text n args to g old a b c d e f h j new is_a is_b is_c is_d is_e is_f is_h is_j is_new =
    let ps = form_text (list_form (map variable_form (parameters 0 args))) in
    let rows = form_text (rows_form (parameters 0 args) to g.rows (value_form to g.otherwise)) in
    is_new ∙ ap (λ ys. ys ++ 41 ∷ []) (is_j ∙ ap (λ ys. ys ++ rows) (is_h ∙ ap (λ ys. ys ++ 32 ∷ []) (is_f ∙ ap (λ ys. ys ++ form_text (sort_form to)) (is_e ∙ ap (λ ys. ys ++ 32 ∷ [])
    (is_d ∙ ap (λ ys. ys ++ ps) (is_c ∙ ap (λ ys. ys ++ 32 ∷ []) (is_b ∙ ap (λ ys. ys ++ printed_symbol n) is_a)))))))
    ∙ joined old (printed_symbol n) ps (form_text (sort_form to)) rows
  where
    joined : (old n ps s rows : List ℕ) → ((((((((old ++ codes "(define-fun ") ++ n) ++ 32 ∷ []) ++ ps) ++ 32 ∷ []) ++ s) ++ 32 ∷ []) ++ rows) ++ 41 ∷ []
        ≡ old ++ (codes "(define-fun " ++ ((n ++ (32 ∷ (ps ++ (32 ∷ (s ++ (32 ∷ (rows ++ []))))))) ++ 41 ∷ []))
    joined old n ps s rows = simp (append_assoc, append-nil)

-- ---- functions of whole numbers

-- a number as it stands in code
pub as_it_stands : (n : ℤ) → IsWithin n → to_z w128 (of_z w128 n) ≡ n
as_it_stands n small = to_z-of_z w128 n (fits n small)
  where
    fits : (n : ℤ) → unsigned_abs n < 2 ^ 127 → FitsSigned w128 n
    fits n small = grind (arith, ints)

abbrev pub number_parameters : List Variable
number_parameters = parameters 0 (int ∷ [])

pub number_row_joined : (k v : ℤ) (now a b c d new : List ℕ) → a ≡ now ++ codes "(ite (= x!0 " → b ≡ a ++ form_text (integer_form k) → c ≡ b ++ codes ") " → d ≡ c ++ form_text (integer_form v) → new ≡ d ++ 32 ∷ []
    → new ≡ now ++ row_text number_parameters int (row_of (record { key = k; result = v }))
number_row_joined k v now a b c d new is_a is_b is_c is_d is_new =
    is_new ∙ ap (λ ys. ys ++ 32 ∷ []) (is_d ∙ ap (λ ys. ys ++ form_text (integer_form v)) (is_c ∙ ap (λ ys. ys ++ codes ") ") (is_b ∙ ap (λ ys. ys ++ form_text (integer_form k)) is_a)))
    ∙ joined now (codes "(ite (= x!0 ") (form_text (integer_form k)) (codes ") ") (form_text (integer_form v)) (32 ∷ [])
    ∙ ap (λ ys. now ++ (codes "(ite (= x!0 " ++ ys)) (sym (inner (form_text (integer_form k)) (form_text (integer_form v))))
  where
    joined : (now a k b v c : List ℕ) → ((((now ++ a) ++ k) ++ b) ++ v) ++ c ≡ now ++ (a ++ (k ++ (b ++ (v ++ c))))
    joined now a k b v c = simp append_assoc

    inner : (k v : List ℕ) → ((k ++ []) ++ 41 ∷ []) ++ (32 ∷ (v ++ 32 ∷ [])) ≡ k ++ (codes ") " ++ (v ++ 32 ∷ []))
    inner k v = ap (λ ys. (ys ++ 41 ∷ []) ++ (32 ∷ (v ++ 32 ∷ []))) (append-nil k) ∙ append_assoc k (41 ∷ []) (32 ∷ (v ++ 32 ∷ []))

pub number_row_at : (rows : List NumberRow) (i : ℕ) (r : NumberRow) → slice_get rows i ≡ Some r → slice_get (map row_of rows) i ≡ Some (row_of r)
number_row_at rows i r at = slice_get-map row_of rows i ∙ ap (option_map row_of) at

number_parameters_text : form_text (list_form (map variable_form number_parameters)) ≡ codes "((x!0 Int))"
unfolding is_syntax_word is_command_word
number_parameters_text = refl

pub number_line : (n : Name) (g : NumberGraph) (old a b c d new : List ℕ) → a ≡ old ++ codes "(define-fun " → b ≡ a ++ printed_symbol n → c ≡ b ++ codes " ((x!0 Int)) Int "
    → d ≡ c ++ form_text (rows_form number_parameters int (map row_of g.rows) (value_form int (plain.whole g.otherwise))) → new ≡ d ++ codes ")\n" → new ≡ old ++ line_of (function_form (table_symbol n) (graph_of g))
number_line n g old a b c d new is_a is_b is_c is_d is_new =
    let ps = form_text (list_form (map variable_form number_parameters)) in
    let head : c ≡ ((((b ++ 32 ∷ []) ++ ps) ++ 32 ∷ []) ++ codes "Int") ++ 32 ∷ [] =
    is_c ∙ ap (λ qs. b ++ (32 ∷ (qs ++ codes " Int "))) (sym number_parameters_text) ∙ sym (joined b (32 ∷ []) ps (32 ∷ []) (codes "Int") (32 ∷ []))
    in
    is_new ∙ sym (append_assoc d (41 ∷ []) (10 ∷ []))
    ∙ ap (λ ys. ys ++ 10 ∷ [])
    (function_text n (int ∷ []) int (graph_of g) old a b (b ++ 32 ∷ []) ((b ++ 32 ∷ []) ++ ps) (((b ++ 32 ∷ []) ++ ps) ++ 32 ∷ []) ((((b ++ 32 ∷ []) ++ ps) ++ 32 ∷ []) ++ codes "Int") c d (d ++ 41 ∷ [])
    is_a is_b refl refl refl refl head is_d refl)
    ∙ append_assoc old (form_text (function_form (table_symbol n) (graph_of g))) (10 ∷ [])
  where
    joined : (b p q r s t : List ℕ) → ((((b ++ p) ++ q) ++ r) ++ s) ++ t ≡ b ++ (p ++ (q ++ (r ++ (s ++ t))))
    joined b p q r s t = simp append_assoc

pub nothing_there : (n : Name) (g : NumberGraph) → not (is_there g g.rows) ≡ true → flat_map line_of (table_entries n g) ≡ []
nothing_there n g h = by (is_there g g.rows) h
  where
    by : (b : Bool) → not b ≡ true → flat_map line_of (if b then function_form (table_symbol n) (graph_of g) ∷ [] else []) ≡ []
    by true h = absurd (true≢false (sym h))
    by false h = refl

pub one_there : (n : Name) (g : NumberGraph) → not (is_there g g.rows) ≡ false → line_of (function_form (table_symbol n) (graph_of g)) ≡ flat_map line_of (table_entries n g)
one_there n g h = by (is_there g g.rows) h
  where
    by : (b : Bool) → not b ≡ false → line_of (function_form (table_symbol n) (graph_of g)) ≡ flat_map line_of (if b then function_form (table_symbol n) (graph_of g) ∷ [] else [])
    by true h = sym (append-nil (line_of (function_form (table_symbol n) (graph_of g))))
    by false h = absurd (true≢false h)
