-- What a form is before its sort is known, part by part, and what that is read as.
use Rattle.std.specs.Prelude.{◌≡◌, ℕ, ◌<◌, Bool, true, false, ◌&&◌, if◌then◌else◌, List, length, codes, Option, Some, None}
use Rattle.smt_lex.specs.Lex.{Token, name_of}
use Rattle.smt_lex.specs.Forms.{Form, atom, node, Forms, none, ◌⨾◌}
use Rattle.smt_lex.specs.Forest.{token_at}
use Rattle.smt_terms.specs.Sorts.{Name, Sort}
use Rattle.smt_terms.specs.Values.{Value}
use Rattle.script_terms.specs.Parts.{symbol_in, word_in, is_name, numeral_in}
use Rattle.script_terms.specs.Places.{IsForm, form_from}
use Rattle.model_texts.specs.Refusals.{not_a_table}
use Rattle.model_texts.specs.Reading.{Reading, refuses, by_rule}
use Rattle.model_texts.specs.ValueForms.{Literal, atom_literal, negative_literal, indexed_literal, literal_value, is_abstract, element_of, filled_sort, filled, stored, value_in}
use Rattle.model_texts.specs.Literals.{IsLiteral}
use Rattle.model_texts.specs.declared.shapes.Shape.{Shape as ShapeHeld}
use Rattle.model_texts.specs.declared.shapes.Shape.TheVariants.{Constant, Element, Filled, Store, Other}

pub data Shape : Type 0 where
  constant : Literal → Shape
  -- `(as @name SORT)`
  element : Name → Form → Shape
  -- `((as const SORT) VALUE)`
  everywhere : Form → Form → Shape
  -- `(store ARRAY KEY VALUE)`
  change : Form → Form → Form → Shape
  other : Shape

abbrev pub constant_or_other : Option Literal → Shape
constant_or_other None = other
constant_or_other (Some l) = constant l

abbrev pub everywhere_or_other : Option Form → Form → Shape
everywhere_or_other None v = other
everywhere_or_other (Some s) v = everywhere s v

abbrev pub pair_shape : Option Literal → Option Form → Form → Shape
pair_shape (Some l) s v = constant l
pair_shape None s v = everywhere_or_other s v

abbrev pub element_shape : Option Name → Form → Shape
element_shape None s = other
element_shape (Some n) s = if is_abstract n then element n s else other

abbrev pub triple_shape : Form → Form → Form → Shape
triple_shape f g h =
    if is_name (codes "_") (word_in f) then constant_or_other (indexed_literal (symbol_in g) (numeral_in h))
    else (if is_name (codes "as") (word_in f) then element_shape (symbol_in g) h
    else other)

abbrev pub store_shape : Form → Form → Form → Form → Shape
store_shape f a k v = if is_name (codes "store") (symbol_in f) then change a k v else other

abbrev pub shape_in : Forms → Shape
shape_in (f ⨾ v ⨾ none) = pair_shape (negative_literal (symbol_in f) (numeral_in v)) (filled_sort f) v
shape_in (f ⨾ g ⨾ h ⨾ none) = triple_shape f g h
shape_in (f ⨾ a ⨾ k ⨾ v ⨾ none) = store_shape f a k v
shape_in _ = other

abbrev pub shape_of : Form → Shape
shape_of (atom t) = constant_or_other (atom_literal t)
shape_of (node place fs) = shape_in fs

-- what a shape at this place is read as, at the sort that is wanted
abbrev pub read_shape : ℕ → Sort → Shape → Reading Value
read_shape place s (constant l) = by_rule (literal_value place s (Some l))
read_shape place s (element n f) = element_of place s n f
read_shape place s (everywhere f v) = filled place s f (value_in v)
read_shape place s (change a k v) = stored place s (value_in a) (value_in k) (value_in v)
read_shape place s other = refuses not_a_table place

-- ---- by the numbers of tokens

pub record IsElementAt (ts : List Token) (n : Name) (f : Form) (i j : ℕ) : Type 0 where
  pub within : i < length ts
  pub name : name_of (token_at ts i) ≡ n
  pub form : IsForm ts j
  pub sort : form_from ts j ≡ f

pub record AreTwoAt (ts : List Token) (f g : Form) (i j : ℕ) : Type 0 where
  pub form : IsForm ts i
  pub is : form_from ts i ≡ f
  pub form_2 : IsForm ts j
  pub is_2 : form_from ts j ≡ g

pub record AreThreeAt (ts : List Token) (f g h : Form) (i j k : ℕ) : Type 0 where
  pub form : IsForm ts i
  pub is : form_from ts i ≡ f
  pub form_2 : IsForm ts j
  pub is_2 : form_from ts j ≡ g
  pub form_3 : IsForm ts k
  pub is_3 : form_from ts k ≡ h

abbrev pub IsShapeAt : List Token → Shape → ShapeHeld → Type 0
IsShapeAt ts (constant l) (Constant c) = IsLiteral l c
IsShapeAt ts (element n f) (Element i j) = IsElementAt ts n f i j
IsShapeAt ts (everywhere f v) (Filled i j) = AreTwoAt ts f v i j
IsShapeAt ts (change a k v) (Store i j l) = AreThreeAt ts a k v i j l
IsShapeAt ts other Other = Unit {0}
IsShapeAt ts _ _ = ⊥
