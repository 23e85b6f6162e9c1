-- Constants and elements as they are read at a sort that is no array sort.
use Rattle.std.proofs.Common.{◌≡◌, ℕ, ◌<◌, Bool, true, false, ◌&&◌, ◌⊎◌, inl, inr, if◌then◌else◌, List, length, Result, Err, IsTrue, refl, ap, sym, subst, ◌∙◌, arith, true≢false}
use Rattle.std.proofs.lemmas.Bool.{lt-ltb}
use Rattle.smt_lex.specs.Lex.{Token, name_of}
use Rattle.smt_lex.specs.Forms.{Form}
use Rattle.smt_lex.specs.Forest.{token_at}
use Rattle.smt_terms.specs.Rank.{is_array}
use Rattle.smt_terms.specs.Sorts.{Name, Sort, free_sort, bool, int, bit_vector, array}
use Rattle.smt_terms.specs.Values.{Sizes, is_value}
use Rattle.smt_terms.specs.Values as plain
use Rattle.smt_terms.specs.declared.ids.SortId.{SortId}
use Rattle.smt_values.specs.SortIds.{sort_at, is_free}
use Rattle.script_terms.specs.Parts.{place_of}
use Rattle.script_terms.specs.Places.{form_from}
use Rattle.script_read.specs.CommandLists.{free_name}
use Rattle.term_table.specs.Formulas.{Formulas}
use Rattle.models.specs.LiveNumbers.{IsFreeSort}
use Rattle.model_texts.specs.Refusals.{Refused as RefusedAt, at, model_sort}
use Rattle.model_texts.specs.Reading.{Element, refuses, meets, place_among}
use Rattle.model_texts.specs.Literals.{IsLiteral}
use Rattle.model_texts.specs.Met.{MetNames, names_kept, with_name, AreSizesFor}
use Rattle.model_texts.specs.Replies.{Replies, cause_of}
use Rattle.model_texts.specs.Shapes.{Shape, constant, element, everywhere, change, other, shape_of, read_shape, IsShapeAt}
use Rattle.model_texts.specs.ValueForms.{Literal, element_of, is_sort_form, value_in}
use Rattle.model_texts.specs.declared.faults.Cause.{Cause}
use Rattle.model_texts.specs.declared.faults.TextFault.{TextFault}
use Rattle.model_texts.specs.declared.faults.TextFault.TheVariants.{Refused}
use Rattle.model_texts.specs.declared.literals.Literal.{Literal as LiteralHeld}
use Rattle.model_texts.specs.declared.shapes.Shape.{Shape as ShapeHeld}
use Rattle.model_texts.specs.declared.shapes.Shape.TheVariants.{Constant, Element as ElementHeld, Filled, Store}
use Rattle.model_texts.proofs.ElementNames.{place-met-below, free_is}
use Rattle.model_texts.proofs.ValueShapes.{value_reads}

-- ---- refusals

pub refused_reply : {A B : Type 0} (R : A → B → Type 0) (known : List Element → Type 0) (r : Result (B × List Element) RefusedAt) (fault : TextFault) (cause : Cause) (place : ℕ)
    → r ≡ at (cause_of cause) place → fault ≡ Refused cause place → Replies R known r (Err fault)
refused_reply R known r fault cause place reads is =
    subst (λ f. Replies R known r (Err f)) (sym is) (subst (λ q. Replies R known q (Err (Refused cause place))) (sym reads) refl)

-- ---- shapes by the numbers of tokens

module _ (ts : List Token) where
  pub constant_at : (s : Shape) (c : LiteralHeld) → IsShapeAt ts s (Constant c) → (l : Literal) × (s ≡ constant l) × IsLiteral l c
  constant_at (constant l) c h = (l, refl, h)
  constant_at (element n f) c h = absurd h
  constant_at (everywhere f v) c h = absurd h
  constant_at (change a k v) c h = absurd h
  constant_at other c h = absurd h

  pub element_at : (s : Shape) (i j : ℕ) → IsShapeAt ts s (ElementHeld i j) → s ≡ element (name_of (token_at ts i)) (form_from ts j)
  element_at (element n f) i j h = λ x. element (sym h.name x) (sym h.sort x)
  element_at (constant l) i j h = absurd h
  element_at (everywhere f v) i j h = absurd h
  element_at (change a k v) i j h = absurd h
  element_at other i j h = absurd h

  -- no array is of such a sort
  module _ (place : ℕ) (s : Sort) (simple : is_array s ≡ false) (es : List Element) where
    filled_refused : (f v : Form) (t : Sort) → is_array t ≡ false → read_shape place t (everywhere f v) es ≡ at model_sort place
    filled_refused f v bool plain = refl
    filled_refused f v int plain = refl
    filled_refused f v (bit_vector w) plain = refl
    filled_refused f v (free_sort n) plain = refl
    filled_refused f v (array i e) plain = absurd (true≢false plain)

    changed_refused : (a k v : Form) (t : Sort) → is_array t ≡ false → read_shape place t (change a k v) es ≡ at model_sort place
    changed_refused a k v bool plain = refl
    changed_refused a k v int plain = refl
    changed_refused a k v (bit_vector w) plain = refl
    changed_refused a k v (free_sort n) plain = refl
    changed_refused a k v (array i e) plain = absurd (true≢false plain)

    filled_simple : (h : Shape) (i j : ℕ) → IsShapeAt ts h (Filled i j) → read_shape place s h es ≡ at model_sort place
    filled_simple (everywhere f v) i j h = filled_refused f v s simple
    filled_simple (constant l) i j h = absurd h
    filled_simple (element n f) i j h = absurd h
    filled_simple (change a k v) i j h = absurd h
    filled_simple other i j h = absurd h

    changed_simple : (h : Shape) (i j k : ℕ) → IsShapeAt ts h (Store i j k) → read_shape place s h es ≡ at model_sort place
    changed_simple (change a k v) i j l h = changed_refused a k v s simple
    changed_simple (constant l) i j k h = absurd h
    changed_simple (element n f) i j k h = absurd h
    changed_simple (everywhere f v) i j k h = absurd h
    changed_simple other i j k h = absurd h

    pub array_refused : (h : Shape) (r : ShapeHeld) → IsShapeAt ts h r → ((i : ℕ) × (j : ℕ) × (r ≡ Filled i j)) ⊎ ((i : ℕ) × (j : ℕ) × (k : ℕ) × (r ≡ Store i j k)) → read_shape place s h es ≡ at model_sort place
    array_refused h r held (inl f) = filled_simple h f.0 f.1 (subst (IsShapeAt ts h) f.2 held)
    array_refused h r held (inr g) = changed_simple h g.0 g.1 g.2 (subst (IsShapeAt ts h) g.3 held)

-- ---- what a form of a known shape is read as

pub shape_reads : (f : Form) (s : Sort) (es : List Element) (h : Shape) → shape_of f ≡ h → value_in f s es ≡ read_shape (place_of f) s h es
shape_reads f s es h is = value_reads f s es ∙ ap (λ k. read_shape (place_of f) s k es) is

pub not_declared : (place : ℕ) (s : Sort) (n : Name) (f : Form) (es : List Element) → (is_free s && is_sort_form s f) ≡ false → element_of place s n f es ≡ at model_sort place
not_declared place (free_sort m) n f es is = ap (λ (b : Bool). (if b then meets m n else refuses model_sort place) es) is
not_declared place bool n f es is = refl
not_declared place int n f es is = refl
not_declared place (bit_vector w) n f es is = refl
not_declared place (array i e) n f es is = refl

pub declared_met : (place : ℕ) (s : Sort) (n : Name) (f : Form) (es : List Element) → (is_free s && is_sort_form s f) ≡ true → element_of place s n f es ≡ meets (free_name s) n es
declared_met place (free_sort m) n f es is = ap (λ (b : Bool). (if b then meets m n else refuses model_sort place) es) is
declared_met place bool n f es is = absurd (true≢false (sym is))
declared_met place int n f es is = absurd (true≢false (sym is))
declared_met place (bit_vector w) n f es is = absurd (true≢false (sym is))
declared_met place (array i e) n f es is = absurd (true≢false (sym is))

pub element_valid : (t : Formulas) (ms : MetNames) (sort : SortId) → IsFreeSort t sort → (ns : List Name) (n : Name) → names_kept ms sort ≡ with_name n ns → (i : ℕ) → i ≡ place_among ns n
    → (sizes : Sizes) → AreSizesFor t ms sizes → IsTrue (is_value (sort_at t.sorts sort) sizes (plain.element i))
element_valid t ms sort free ns n kept i is sizes large =
    let below = place-met-below ns n in
    let size = ap length kept in
    let enough = large sort free in
    let within : i < sizes (free_name (sort_at t.sorts sort)) = omega (arith, is, below, size, enough) in
    ap (λ s. is_value s sizes (plain.element i)) (free_is (sort_at t.sorts sort) free.1) ∙ lt-ltb i (sizes (free_name (sort_at t.sorts sort))) within
