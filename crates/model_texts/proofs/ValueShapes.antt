-- A value is read as the shape of its form says, and chains of `store`s from the inside out.
use Rattle.std.proofs.Common.{◌≡◌, ℕ, suc, ◌<◌, Bool, true, false, List, [], ◌∷◌, ◌++◌, map, reverse, codes, Option, Some, None, Result, Ok, Err, if◌then◌else◌, refl, ap, sym, ◌∙◌, subst, arith, true≢false}
use Rattle.std.proofs.lemmas.List.{reverse-append}
use Rattle.smt_lex.specs.Lex.{Token}
use Rattle.smt_lex.specs.Forms.{Form, atom, node, Forms, none, ◌⨾◌}
use Rattle.smt_terms.specs.Sorts.{Name, Sort, array, free_sort, bool, int, bit_vector}
use Rattle.smt_terms.specs.Values.{Value, table, no_pairs, store}
use Rattle.script_terms.specs.Parts.{place_of, symbol_in, word_in, is_name, numeral_in}
use Rattle.model_texts.specs.Refusals.{Refused, at, not_a_table, model_sort}
use Rattle.model_texts.specs.Reading.{Element, Reading, ◌>>=◌, continued, gives, refuses, by_rule}
use Rattle.model_texts.specs.ValueForms.{Literal, atom_literal, negative_literal, indexed_literal, literal_value, is_abstract, element_of, element_named, filled_sort, filled, negative_or_filled, qualified_or_indexed, stored, value_in, is_sort_form}
use Rattle.model_texts.specs.Shapes.{Shape, constant, element, everywhere, change, other, constant_or_other, everywhere_or_other, pair_shape, element_shape, triple_shape, store_shape, shape_of, read_shape, IsShapeAt}
use Rattle.model_texts.specs.Literals.{IsLiteral}
use Rattle.model_texts.specs.Chains.{with_stored, everywhere_in, stored_forms, all_stored, IsInnermost}
use Rattle.script_terms.specs.Places.{IsForm, form_from}
use Rattle.model_texts.specs.declared.literals.Literal.{Literal as LiteralHeld}
use Rattle.model_texts.specs.declared.literals.Literal.TheVariants.{Truth, Whole, Vector}
use Rattle.model_texts.specs.declared.shapes.Shape.{Shape as ShapeHeld}
use Rattle.model_texts.specs.declared.shapes.Shape.TheVariants.{Constant, Element as ElementHeld, Filled, Store, Other}
use Rattle.model_texts.specs.declared.values.Stored.{Stored}

-- ---- shapes

atom_reads : (place : ℕ) (s : Sort) (l : Option Literal) (es : List Element) → by_rule (literal_value place s l) es ≡ read_shape place s (constant_or_other l) es
atom_reads place s None es = refl
atom_reads place s (Some l) es = refl

pair_reads : (place : ℕ) (s : Sort) (l : Option Literal) (f : Option Form) (v : Form) (es : List Element) → negative_or_filled place s l f (value_in v) es ≡ read_shape place s (pair_shape l f v) es
pair_reads place s (Some l) f v es = refl
pair_reads place s None (Some f) v es = refl
pair_reads place s None None v es = refl

element_reads : (place : ℕ) (s : Sort) (n : Option Name) (f : Form) (es : List Element) → element_named place s n f es ≡ read_shape place s (element_shape n f) es
element_reads place s None f es = refl
element_reads place s (Some n) f es = by (is_abstract n)
  where
    by : (b : Bool) → (if b then element_of place s n f else refuses not_a_table place) es ≡ read_shape place s (if b then element n f else other) es
    by true = refl
    by false = refl

triple_reads : (place : ℕ) (s : Sort) (f g h : Form) (es : List Element) → qualified_or_indexed place s f g h es ≡ read_shape place s (triple_shape f g h) es
triple_reads place s f g h es = by (is_name (codes "_") (word_in f)) (is_name (codes "as") (word_in f))
  where
    by : (b c : Bool)
        → (if b then by_rule (literal_value place s (indexed_literal (symbol_in g) (numeral_in h))) else (if c then element_named place s (symbol_in g) h else refuses not_a_table place)) es
        ≡ read_shape place s (if b then constant_or_other (indexed_literal (symbol_in g) (numeral_in h)) else (if c then element_shape (symbol_in g) h else other)) es
    by true c = atom_reads place s (indexed_literal (symbol_in g) (numeral_in h)) es
    by false true = element_reads place s (symbol_in g) h es
    by false false = refl

store_reads : (place : ℕ) (s : Sort) (f a k v : Form) (es : List Element)
    → (if is_name (codes "store") (symbol_in f) then stored place s (value_in a) (value_in k) (value_in v) else refuses not_a_table place) es ≡ read_shape place s (store_shape f a k v) es
store_reads place s f a k v es = by (is_name (codes "store") (symbol_in f))
  where
    by : (b : Bool) → (if b then stored place s (value_in a) (value_in k) (value_in v) else refuses not_a_table place) es ≡ read_shape place s (if b then change a k v else other) es
    by true = refl
    by false = refl

pub value_reads : (f : Form) (s : Sort) (es : List Element) → value_in f s es ≡ read_shape (place_of f) s (shape_of f) es
value_reads (atom t) s es = atom_reads t.start s (atom_literal t) es
value_reads (node place none) s es = refl
value_reads (node place (f ⨾ none)) s es = refl
value_reads (node place (f ⨾ v ⨾ none)) s es = pair_reads place s (negative_literal (symbol_in f) (numeral_in v)) (filled_sort f) v es
value_reads (node place (f ⨾ g ⨾ h ⨾ none)) s es = triple_reads place s f g h es
value_reads (node place (f ⨾ a ⨾ k ⨾ v ⨾ none)) s es = store_reads place s f a k v es
value_reads (node place (f ⨾ a ⨾ k ⨾ v ⨾ w ⨾ ws)) s es = refl

-- ---- readings one after the other

pub bind_later : {A B C : Type 0} (r : Result (A × List Element) Refused) (f : A → Reading B) (g : B → Reading C) → continued g (continued f r) ≡ continued (λ a. f a >>= g) r
bind_later (Ok p) f g = refl
bind_later (Err e) f g = refl

-- ---- chains

-- a `store` is its array, in which one thing more is stored first
pub change_reads : (f a k v : Form) → shape_of f ≡ change a k v → (i e : Sort) (ps : List (Form × Form)) (es : List Element)
    → (value_in f (array i e) >>= with_stored i e ps) es ≡ (value_in a (array i e) >>= with_stored i e ((k, v) ∷ ps)) es
change_reads f a k v is i e ps es =
    ap (continued (with_stored i e ps)) (value_reads f (array i e) es ∙ ap (λ h. read_shape (place_of f) (array i e) h es) is)
    ∙ bind_later (value_in a (array i e) es) (λ x. value_in k i >>= λ y. value_in v e >>= λ z. gives (store i (λ _. 1) x y z)) (with_stored i e ps)
    ∙ ap (λ (g : Value → Reading Value). continued g (value_in a (array i e) es)) (λ j x ds. later x ds j)
  where
    last : (x y : Value) (r : Result (Value × List Element) Refused) → continued (with_stored i e ps) (continued (λ z. gives (store i (λ _. 1) x y z)) r) ≡ continued (λ z. with_stored i e ps (store i (λ _. 1) x y z)) r
    last x y (Ok p) = refl
    last x y (Err q) = refl

    middle : (x : Value) (r : Result (Value × List Element) Refused)
        → continued (with_stored i e ps) (continued (λ y. value_in v e >>= λ z. gives (store i (λ _. 1) x y z)) r) ≡ continued (λ y. value_in v e >>= λ z. with_stored i e ps (store i (λ _. 1) x y z)) r
    middle x (Ok p) = last x p.0 (value_in v e p.1)
    middle x (Err q) = refl

    later : (x : Value) (ds : List Element)
        → ((value_in k i >>= λ y. value_in v e >>= λ z. gives (store i (λ _. 1) x y z)) >>= with_stored i e ps) ds ≡ with_stored i e ((k, v) ∷ ps) x ds
    later x ds = middle x (value_in k i ds)

pub gives_last : {A : Type 0} (r : Result (A × List Element) Refused) → r ≡ continued gives r
gives_last (Ok p) = refl
gives_last (Err e) = refl

-- ---- how long a chain is

abbrev pub chain_length : Form → ℕ
chain_length (node place (f ⨾ a ⨾ k ⨾ v ⨾ none)) = suc (chain_length a)
chain_length _ = 0

abbrev is_change : Shape → Bool
is_change (change a k v) = true
is_change _ = false

abbrev changed_array : Shape → Form
changed_array (change a k v) = a
changed_array _ = node 0 none

no_constant : (l : Option Literal) → is_change (constant_or_other l) ≡ false
no_constant None = refl
no_constant (Some l) = refl

no_pair : (l : Option Literal) (s : Option Form) (v : Form) → is_change (pair_shape l s v) ≡ false
no_pair (Some l) s v = refl
no_pair None (Some s) v = refl
no_pair None None v = refl

no_element : (n : Option Name) (s : Form) → is_change (element_shape n s) ≡ false
no_element None s = refl
no_element (Some n) s = by (is_abstract n)
  where
    by : (b : Bool) → is_change (if b then element n s else other) ≡ false
    by true = refl
    by false = refl

no_triple : (f g h : Form) → is_change (triple_shape f g h) ≡ false
no_triple f g h = by (is_name (codes "_") (word_in f)) (is_name (codes "as") (word_in f))
  where
    by : (b c : Bool) → is_change (if b then constant_or_other (indexed_literal (symbol_in g) (numeral_in h)) else (if c then element_shape (symbol_in g) h else other)) ≡ false
    by true c = no_constant (indexed_literal (symbol_in g) (numeral_in h))
    by false true = no_element (symbol_in g) h
    by false false = refl

never : {A : Type 0} (s : Shape) (a k v : Form) → is_change s ≡ false → s ≡ change a k v → A
never s a k v other_one is = absurd (true≢false (sym (ap is_change is) ∙ other_one))

shorter : (f b j w a k v : Form) → store_shape f b j w ≡ change a k v → chain_length a < suc (chain_length b)
shorter f b j w a k v is = by (is_name (codes "store") (symbol_in f)) is
  where
    by : (c : Bool) → (if c then change b j w else other) ≡ change a k v → chain_length a < suc (chain_length b)
    by true e = let same : chain_length b ≡ chain_length a = ap (λ s. chain_length (changed_array s)) e in omega (arith, same)
    by false e = never other a k v refl e

pub chain_shorter : (f a k v : Form) → shape_of f ≡ change a k v → chain_length a < chain_length f
chain_shorter (atom t) a k v is = never _ a k v (no_constant (atom_literal t)) is
chain_shorter (node place none) a k v is = never other a k v refl is
chain_shorter (node place (f ⨾ none)) a k v is = never other a k v refl is
chain_shorter (node place (f ⨾ g ⨾ none)) a k v is = never _ a k v (no_pair (negative_literal (symbol_in f) (numeral_in g)) (filled_sort f) g) is
chain_shorter (node place (f ⨾ g ⨾ h ⨾ none)) a k v is = never _ a k v (no_triple f g h) is
chain_shorter (node place (f ⨾ b ⨾ j ⨾ w ⨾ none)) a k v is = shorter f b j w a k v is
chain_shorter (node place (f ⨾ b ⨾ j ⨾ w ⨾ x ⨾ xs)) a k v is = never other a k v refl is

-- ---- shapes by the numbers of tokens

module _ (ts : List Token) where
  pub stored_last : (ss : List Stored) (s : Stored) → all_stored ts (ss ++ s ∷ []) ≡ stored_forms ts s ∷ all_stored ts ss
  stored_last ss s = ap (map (stored_forms ts)) (reverse-append ss (s ∷ []))

  pub store_at : (s : Shape) (i j l : ℕ) → IsShapeAt ts s (Store i j l) → (s ≡ change (form_from ts i) (form_from ts j) (form_from ts l)) × IsForm ts i × IsForm ts j × IsForm ts l
  store_at (change a k v) i j l h = ((λ x. change (sym h.is x) (sym h.is_2 x) (sym h.is_3 x)), h.form, h.form_2, h.form_3)
  store_at (constant c) i j l h = absurd h
  store_at (element n f) i j l h = absurd h
  store_at (everywhere f v) i j l h = absurd h
  store_at other i j l h = absurd h

  pub filled_at : (s : Shape) (i j : ℕ) → IsShapeAt ts s (Filled i j) → (s ≡ everywhere (form_from ts i) (form_from ts j)) × IsForm ts i × IsForm ts j
  filled_at (everywhere f v) i j h = ((λ x. everywhere (sym h.is x) (sym h.is_2 x)), h.form, h.form_2)
  filled_at (constant c) i j h = absurd h
  filled_at (element n f) i j h = absurd h
  filled_at (change a k v) i j h = absurd h
  filled_at other i j h = absurd h

  pub change_held : (a k v : Form) (r : ShapeHeld) → IsShapeAt ts (change a k v) r → ((x y z : ℕ) → r ≡ Store x y z → ⊥) → ⊥
  change_held a k v (Store x y z) h apart = apart x y z refl
  change_held a k v (Constant c) h apart = h
  change_held a k v (ElementHeld x y) h apart = h
  change_held a k v (Filled x y) h apart = h
  change_held a k v Other h apart = h

  -- a constant is of no array sort
  pub constant_refused : (place : ℕ) (i e : Sort) (l : Literal) (c : LiteralHeld) (es : List Element) → IsLiteral l c → read_shape place (array i e) (constant l) es ≡ at model_sort place
  constant_refused place i e l (Truth b) es is = ap (λ m. read_shape place (array i e) (constant m) es) is
  constant_refused place i e l (Whole (Some n)) es is = ap (λ m. read_shape place (array i e) (constant m) es) is.0
  constant_refused place i e l (Whole None) es is = ap (λ m. read_shape place (array i e) (constant m) es) is.1
  constant_refused place i e l (Vector width bits) es is = ap (λ m. read_shape place (array i e) (constant m) es) is.2

  shape_refused : (place : ℕ) (i e : Sort) (s : Shape) (r : ShapeHeld) (es : List Element) → IsShapeAt ts s r → ((a k v : Form) → s ≡ change a k v → ⊥) → ((x y : ℕ) → r ≡ Filled x y → ⊥) → (r ≡ Other → ⊥)
      → read_shape place (array i e) s es ≡ at model_sort place
  shape_refused place i e (constant l) (Constant c) es h store filled none_ = constant_refused place i e l c es h
  shape_refused place i e (element n f) (ElementHeld x y) es h store filled none_ = refl
  shape_refused place i e (everywhere f v) (Filled x y) es h store filled none_ = absurd (filled x y refl)
  shape_refused place i e (change a k v) r es h store filled none_ = absurd (store a k v refl)
  shape_refused place i e other Other es h store filled none_ = absurd (none_ refl)
  shape_refused place i e (constant l) (ElementHeld x y) es h store filled none_ = absurd h
  shape_refused place i e (constant l) (Filled x y) es h store filled none_ = absurd h
  shape_refused place i e (constant l) (Store x y z) es h store filled none_ = absurd h
  shape_refused place i e (constant l) Other es h store filled none_ = absurd h
  shape_refused place i e (element n f) (Constant c) es h store filled none_ = absurd h
  shape_refused place i e (element n f) (Filled x y) es h store filled none_ = absurd h
  shape_refused place i e (element n f) (Store x y z) es h store filled none_ = absurd h
  shape_refused place i e (element n f) Other es h store filled none_ = absurd h
  shape_refused place i e (everywhere f v) (Constant c) es h store filled none_ = absurd h
  shape_refused place i e (everywhere f v) (ElementHeld x y) es h store filled none_ = absurd h
  shape_refused place i e (everywhere f v) (Store x y z) es h store filled none_ = absurd h
  shape_refused place i e (everywhere f v) Other es h store filled none_ = absurd h
  shape_refused place i e other (Constant c) es h store filled none_ = absurd h
  shape_refused place i e other (ElementHeld x y) es h store filled none_ = absurd h
  shape_refused place i e other (Filled x y) es h store filled none_ = absurd h
  shape_refused place i e other (Store x y z) es h store filled none_ = absurd h

  pub other_refused : (f : Form) (r : ShapeHeld) → IsShapeAt ts (shape_of f) r → IsInnermost f → ((x y : ℕ) → r ≡ Filled x y → ⊥) → (r ≡ Other → ⊥)
      → (i e : Sort) (es : List Element) → value_in f (array i e) es ≡ at model_sort (place_of f)
  other_refused f r h innermost filled none_ i e es = value_reads f (array i e) es ∙ shape_refused (place_of f) i e (shape_of f) r es h innermost filled none_

-- the constant array of the sort that is wanted
pub filled_reads : (f g v : Form) (i e : Sort) (es : List Element) → shape_of f ≡ everywhere g v → is_sort_form (array i e) g ≡ true → value_in f (array i e) es ≡ everywhere_in v e es
filled_reads f g v i e es is sort =
    value_reads f (array i e) es ∙ ap (λ s. read_shape (place_of f) (array i e) s es) is ∙ ap (λ (b : Bool). (if b then (value_in v e >>= λ w. gives (table w no_pairs)) else refuses model_sort (place_of f)) es) sort
