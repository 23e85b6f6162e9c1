-- A value that was read is one of its sort, whatever the sizes are that have room for the elements that were met.
use Rattle.std.proofs.Common.{◌≡◌, ℕ, ◌+◌, ◌≤◌, ◌<◌, Bool, true, false, if◌then◌else◌, List, length, codes, pos, Option, Some, None, Ok, refl, ap, sym, ◌∙◌, subst, arith}
use Rattle.std.specs.Prelude.{IfSome, neg_ℤ, option_map}
use Rattle.std.proofs.lemmas.Bool.{lt-ltb}
use Rattle.std.proofs.lemmas.Bool.Decides.{Decides-eqb}
use Rattle.std.proofs.lemmas.List.{length-append}
use Rattle.smt_lex.specs.Lex.{symbol_of}
use Rattle.smt_lex.specs.Forms.{Form, atom, node, none, ◌⨾◌}
use Rattle.smt_lex.specs.declared.items.Item.{Item}
use Rattle.smt_lex.specs.declared.items.Item.TheVariants.{Left, Right, Numeral, Decimal, Hex, Bin, Text, Word, Quoted, Keyword}
use Rattle.smt_terms.specs.BitVectors.{nat2bv}
use Rattle.smt_terms.specs.Equal.{name_eq, sort_eq}
use Rattle.smt_terms.specs.Rank.{is_sort}
use Rattle.smt_terms.specs.Sorts.{Name, Sort, bool, int, bit_vector, array, free_sort}
use Rattle.smt_terms.specs.Values.{Value, element, table, no_pairs, Sizes, store, is_value}
use Rattle.smt_terms.proofs.BitLengths.{length-nat2bv}
use Rattle.smt_terms.proofs.Equal.{Decides-sort_eq, name_itself}
use Rattle.smt_terms.proofs.Same.{array_sorts}
use Rattle.smt_terms.proofs.Tests.{and_true}
use Rattle.smt_terms.proofs.Valid.{is_value-store}
use Rattle.script_terms.specs.Heads.{is_vector_name}
use Rattle.script_terms.specs.Parts.{constant_by, symbol_in, word_in, is_name, numeral_in, vector_number}
use Rattle.script_read.specs.Script.{truth_named}
use Rattle.model_texts.specs.Met.{with_name}
use Rattle.model_texts.specs.Reading.{Element, names_in, place_among, with_element, sizes, Reading, ◌>>=◌, gives, refuses, beside, by_rule, meets}
use Rattle.model_texts.specs.Refusals.{Cause, model_sort, not_a_table, model_number, where_so}
use Rattle.model_texts.specs.ValueForms.{is_sort_form, Literal, truth_literal, whole_literal, vector_literal, literal_of, atom_literal, negative_literal, indexed_literal, literal_value, is_abstract, element_of, element_named, qualified_or_indexed, filled_sort, filled, negative_or_filled, stored, value_in}
use Rattle.model_texts.proofs.ElementNames.{names-met, place-met-below}
use Rattle.model_texts.proofs.MetNames.{with_name-begins}
use Rattle.model_texts.proofs.Readings.{same_answer, no_answer, in_steps}
use Rattle.model_texts.proofs.StoreReading.{store_anywhere}

-- no sort has fewer elements than before
abbrev NoFewer : List Element → List Element → Type 0
NoFewer es fs = (m : Name) → sizes es m ≤ sizes fs m

abbrev HasRoom : List Element → Sizes → Type 0
HasRoom es counts = (m : Name) → sizes es m ≤ counts m

-- what is read is of the sort, and no element is lost
abbrev Fits : Sort → Reading Value → Type 0
Fits s r = (es fs : List Element) (v : Value) → r es ≡ Ok (v, fs) → NoFewer es fs × ((counts : Sizes) → HasRoom fs counts → is_value s counts v ≡ true)

fits_refuses : (s : Sort) (cause : Cause) (place : ℕ) → Fits s (refuses cause place)
fits_refuses s cause place es fs v h = absurd (no_answer (record { cause = cause; place = place }) (v, fs) h)

fits_if : (s : Sort) (b : Bool) (r q : Reading Value) → Fits s r → Fits s q → Fits s (if b then r else q)
fits_if s true r q first second = first
fits_if s false r q first second = second

room_before : (es fs : List Element) → NoFewer es fs → (counts : Sizes) → HasRoom fs counts → HasRoom es counts
room_before es fs less counts room m = let a = less m in let b = room m in omega (arith, a, b)

fewer_through : (es fs gs : List Element) → NoFewer es fs → NoFewer fs gs → NoFewer es gs
fewer_through es fs gs first second m = let a = first m in let b = second m in omega (arith, a, b)

-- ---- constants

abbrev IsGood : Literal → Type 0
IsGood l = (counts : Sizes) → is_value l.sort counts l.value ≡ true

good_truth : (o : Option Bool) → IfSome (option_map truth_literal o) IsGood
good_truth None = tt
good_truth (Some b) = λ counts. refl

good_vector : (w n : ℕ) → IsGood (vector_literal w n)
good_vector w n counts = (Decides-eqb (length (nat2bv w n)) w).1 (length-nat2bv w n)

good_token : (i : Item) (text : List ℕ) (name : Option Name) → IfSome (literal_of (constant_by i text) name) IsGood
good_token Numeral text name = λ counts. refl
good_token Hex text name = good_vector _ _
good_token Bin text name = good_vector _ _
good_token Left text name = good_truth (truth_named name)
good_token Right text name = good_truth (truth_named name)
good_token Decimal text name = good_truth (truth_named name)
good_token Text text name = good_truth (truth_named name)
good_token Word text name = good_truth (truth_named name)
good_token Quoted text name = good_truth (truth_named name)
good_token Keyword text name = good_truth (truth_named name)

good_negative : (name : Option Name) (n : Option ℕ) → IfSome (negative_literal name n) IsGood
good_negative name None = tt
good_negative name (Some n) = by (is_name (codes "-") name)
  where
    by : (b : Bool) → IfSome (if b then Some (whole_literal (neg_ℤ (pos n))) else None) IsGood
    by true = λ counts. refl
    by false = tt

good_indexed : (name : Option Name) (width : Option ℕ) → IfSome (indexed_literal name width) IsGood
good_indexed None width = tt
good_indexed (Some name) None = tt
good_indexed (Some name) (Some width) = by (is_vector_name (Some name))
  where
    by : (b : Bool) → IfSome (if b then Some (vector_literal width (vector_number name)) else None) IsGood
    by true = good_vector width (vector_number name)
    by false = tt

fits_rule : (place : ℕ) (s : Sort) (o : Option Literal) → IfSome o IsGood → Fits s (by_rule (literal_value place s o))
fits_rule place s None good es fs v h = absurd (no_answer (record { cause = not_a_table; place = place }) (v, fs) h)
fits_rule place s (Some l) good es fs v h = by (sort_eq l.sort s) l.in_range refl h
  where
    by : (b c : Bool) → sort_eq l.sort s ≡ b → beside es (where_so b model_sort place (where_so c model_number place (Ok l.value))) ≡ Ok (v, fs) → NoFewer es fs × ((counts : Sizes) → HasRoom fs counts → is_value s counts v ≡ true)
    by true true same h =
        let q = same_answer (l.value, es) (v, fs) h in (
          λ m. subst (λ (ds : List Element). sizes es m ≤ sizes ds m) (ap (λ p. p.1) q) (omega arith),
          λ counts room. ap (λ t. is_value t counts v) (sym ((Decides-sort_eq l.sort s).0 same)) ∙ ap (is_value l.sort counts) (sym (ap (λ p. p.0) q)) ∙ good counts,
        )
    by true false same h = absurd (no_answer (record { cause = model_number; place = place }) (v, fs) h)
    by false c same h = absurd (no_answer (record { cause = model_sort; place = place }) (v, fs) h)

-- ---- elements

one_more : (es : List Element) (s n : Name) → NoFewer es (with_element s n es)
one_more es s n m =
    let more = with_name-begins n (names_in es m) in
    let size : length (with_name n (names_in es m)) ≡ length (names_in es m) + length more.0 = ap length more.1 ∙ length-append (names_in es m) more.0 in
    let long : length (names_in (with_element s n es) m) ≡ length (if name_eq s m then with_name n (names_in es m) else names_in es m) = ap length (names-met es s n m) in
    by (name_eq s m) (length more.0) size long
  where
    by : (b : Bool) (k : ℕ) → length (with_name n (names_in es m)) ≡ length (names_in es m) + k → length (names_in (with_element s n es) m) ≡ length (if b then with_name n (names_in es m) else names_in es m) → sizes es m ≤ sizes (with_element s n es) m
    by true k size long = omega (arith, size, long)
    by false k size long = omega (arith, long)

fits_meets : (s n : Name) → Fits (free_sort s) (meets s n)
fits_meets s n es fs v h =
    let q = same_answer (element (place_among (names_in es s) n), with_element s n es) (v, fs) h in
    let now : with_element s n es ≡ fs = ap (λ p. p.1) q in (
      λ m. subst (λ (ds : List Element). sizes es m ≤ sizes ds m) now (one_more es s n m),
      λ counts room.
          let below = place-met-below (names_in es s) n in
          let long : length (names_in (with_element s n es) s) ≡ length (with_name n (names_in es s)) =
          ap length (names-met es s n s) ∙ ap (λ b. length (if b then with_name n (names_in es s) else names_in es s)) (name_itself s) in
          let enough : sizes (with_element s n es) s ≤ counts s = subst (λ (ds : List Element). sizes ds s ≤ counts s) (sym now) (room s) in
          let within : place_among (names_in es s) n < counts s = omega (arith, below, long, enough) in
          ap (is_value (free_sort s) counts) (sym (ap (λ p. p.0) q)) ∙ lt-ltb (place_among (names_in es s) n) (counts s) within,
    )

fits_element : (place : ℕ) (s : Sort) (n : Name) (f : Form) → Fits s (element_of place s n f)
fits_element place bool n f = fits_refuses bool model_sort place
fits_element place int n f = fits_refuses int model_sort place
fits_element place (bit_vector w) n f = fits_refuses (bit_vector w) model_sort place
fits_element place (array i e) n f = fits_refuses (array i e) model_sort place
fits_element place (free_sort s) n f =
    fits_if (free_sort s) (is_sort_form (free_sort s) f) (meets s n) (refuses model_sort place) (fits_meets s n) (fits_refuses (free_sort s) model_sort place)

fits_named : (place : ℕ) (s : Sort) (o : Option Name) (f : Form) → Fits s (element_named place s o f)
fits_named place s None f = fits_refuses s not_a_table place
fits_named place s (Some n) f = fits_if s (is_abstract n) (element_of place s n f) (refuses not_a_table place) (fits_element place s n f) (fits_refuses s not_a_table place)

fits_qualified : (place : ℕ) (s : Sort) (f g h : Form) → Fits s (qualified_or_indexed place s f g h)
fits_qualified place s f g h =
    let rule = by_rule (literal_value place s (indexed_literal (symbol_in g) (numeral_in h))) in
    let named = element_named place s (symbol_in g) h in
    fits_if s (is_name (codes "_") (word_in f)) rule (if is_name (codes "as") (word_in f) then named else refuses not_a_table place)
    (fits_rule place s (indexed_literal (symbol_in g) (numeral_in h)) (good_indexed (symbol_in g) (numeral_in h)))
    (fits_if s (is_name (codes "as") (word_in f)) named (refuses not_a_table place) (fits_named place s (symbol_in g) h) (fits_refuses s not_a_table place))

-- ---- arrays

abbrev FitsAt : (Sort → Reading Value) → Type 0
FitsAt next = (s : Sort) → is_sort s ≡ true → Fits s (next s)

fits_everywhere : (i e : Sort) (r : Reading Value) → Fits e r → Fits (array i e) (r >>= λ v. gives (table v no_pairs))
fits_everywhere i e r fits es fs v h =
    let steps = in_steps r (λ w. gives (table w no_pairs)) es v fs h in
    let first = fits es steps.1.0 steps.0 steps.1.1.0 in
    let q = same_answer (table steps.0 no_pairs, steps.1.0) (v, fs) steps.1.1.1 in
    let now : steps.1.0 ≡ fs = ap (λ p. p.1) q in (
      subst (NoFewer es) now first.0,
      λ counts room. ap (is_value (array i e) counts) (sym (ap (λ p. p.0) q)) ∙ and_true (is_value e counts steps.0) true (first.1 counts (subst (λ ds. HasRoom ds counts) (sym now) room)) refl,
    )

fits_filled : (place : ℕ) (s : Sort) (f : Form) (next : Sort → Reading Value) → FitsAt next → is_sort s ≡ true → Fits s (filled place s f next)
fits_filled place bool f next rest sort = fits_refuses bool model_sort place
fits_filled place int f next rest sort = fits_refuses int model_sort place
fits_filled place (bit_vector w) f next rest sort = fits_refuses (bit_vector w) model_sort place
fits_filled place (free_sort s) f next rest sort = fits_refuses (free_sort s) model_sort place
fits_filled place (array i e) f next rest sort =
    fits_if (array i e) (is_sort_form (array i e) f) (next e >>= λ v. gives (table v no_pairs)) (refuses model_sort place)
    (fits_everywhere i e (next e) (rest e (array_sorts i e sort).2)) (fits_refuses (array i e) model_sort place)

fits_two : (place : ℕ) (s : Sort) (l : Option Literal) (f : Option Form) (next : Sort → Reading Value) → IfSome l IsGood → FitsAt next → is_sort s ≡ true → Fits s (negative_or_filled place s l f next)
fits_two place s (Some l) f next good rest sort = fits_rule place s (Some l) good
fits_two place s None (Some f) next good rest sort = fits_filled place s f next rest sort
fits_two place s None None next good rest sort = fits_refuses s not_a_table place

fits_change : (i e : Sort) (old key new : Reading Value) → is_sort (array i e) ≡ true → Fits (array i e) old → Fits i key → Fits e new
    → Fits (array i e) (old >>= λ a. key >>= λ k. new >>= λ v. gives (store i (λ _. 1) a k v))
fits_change i e old key new sort a k v es fs w h =
    let x = in_steps old (λ a. key >>= λ k. new >>= λ v. gives (store i (λ _. 1) a k v)) es w fs h in
    let y = in_steps key (λ k. new >>= λ v. gives (store i (λ _. 1) x.0 k v)) x.1.0 w fs x.1.1.1 in
    let z = in_steps new (λ v. gives (store i (λ _. 1) x.0 y.0 v)) y.1.0 w fs y.1.1.1 in
    let first = a es x.1.0 x.0 x.1.1.0 in
    let second = k x.1.0 y.1.0 y.0 y.1.1.0 in
    let third = v y.1.0 z.1.0 z.0 z.1.1.0 in
    let q = same_answer (store i (λ _. 1) x.0 y.0 z.0, z.1.0) (w, fs) z.1.1.1 in
    let now : z.1.0 ≡ fs = ap (λ p. p.1) q in (
      subst (NoFewer es) now (fewer_through es y.1.0 z.1.0 (fewer_through es x.1.0 y.1.0 first.0 second.0) third.0),
      λ counts room.
          let last : HasRoom z.1.0 counts = subst (λ ds. HasRoom ds counts) (sym now) room in
          let middle = room_before y.1.0 z.1.0 third.0 counts last in
          let before = room_before x.1.0 y.1.0 second.0 counts middle in
          ap (is_value (array i e) counts) (sym (ap (λ p. p.0) q) ∙ store_anywhere i (λ _. 1) counts x.0 y.0 z.0 (array_sorts i e sort).0)
          ∙ is_value-store i e counts x.0 y.0 z.0 (first.1 counts before) (second.1 counts middle) (third.1 counts last),
    )

fits_stored : (place : ℕ) (s : Sort) (old key new : Sort → Reading Value) → FitsAt old → FitsAt key → FitsAt new → is_sort s ≡ true → Fits s (stored place s old key new)
fits_stored place bool old key new a k v sort = fits_refuses bool model_sort place
fits_stored place int old key new a k v sort = fits_refuses int model_sort place
fits_stored place (bit_vector w) old key new a k v sort = fits_refuses (bit_vector w) model_sort place
fits_stored place (free_sort s) old key new a k v sort = fits_refuses (free_sort s) model_sort place
fits_stored place (array i e) old key new a k v sort =
    let parts = array_sorts i e sort in
    fits_change i e (old (array i e)) (key i) (new e) sort (a (array i e) sort) (k i parts.1) (v e parts.2)

-- ---- values

fits_value : (f : Form) (s : Sort) → is_sort s ≡ true → Fits s (value_in f s)
fits_value (atom t) s sort = fits_rule t.start s (atom_literal t) (good_token t.item t.text (symbol_of t))
fits_value (node place none) s sort = fits_refuses s not_a_table place
fits_value (node place (f ⨾ none)) s sort = fits_refuses s not_a_table place
fits_value (node place (f ⨾ v ⨾ none)) s sort =
    fits_two place s (negative_literal (symbol_in f) (numeral_in v)) (filled_sort f) (value_in v) (good_negative (symbol_in f) (numeral_in v)) (fits_value v) sort
fits_value (node place (f ⨾ g ⨾ h ⨾ none)) s sort = fits_qualified place s f g h
fits_value (node place (f ⨾ a ⨾ k ⨾ v ⨾ none)) s sort =
    fits_if s (is_name (codes "store") (symbol_in f)) (stored place s (value_in a) (value_in k) (value_in v)) (refuses not_a_table place)
    (fits_stored place s (value_in a) (value_in k) (value_in v) (fits_value a) (fits_value k) (fits_value v) sort) (fits_refuses s not_a_table place)
fits_value (node place (f ⨾ a ⨾ k ⨾ v ⨾ w ⨾ ws)) s sort = fits_refuses s not_a_table place

pub values_fit : (f : Form) (s : Sort) (es fs : List Element) (v : Value) → is_sort s ≡ true → value_in f s es ≡ Ok (v, fs) → (counts : Sizes) → ((m : Name) → sizes fs m ≤ counts m) → is_value s counts v ≡ true
values_fit f s es fs v sort h = (fits_value f s sort es fs v h).1

-- the elements that were met stay
pub none_fewer : (f : Form) (s : Sort) (es fs : List Element) (v : Value) → is_sort s ≡ true → value_in f s es ≡ Ok (v, fs) → (m : Name) → sizes es m ≤ sizes fs m
none_fewer f s es fs v sort h = (fits_value f s sort es fs v h).0
