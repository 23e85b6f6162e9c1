-- Values as model texts write them: constants, elements of free sorts, and arrays that are constant but for some places.
-- SMT-LIB 2.6, sections 3.6 (qualified identifiers) and 3.1 (symbols that begin with `@` name abstract values).
use Rattle.std.specs.Prelude.{ℕ, ◌^◌, ◌==◌, Bool, true, false, ◌&&◌, nat_lt, if◌then◌else◌, codes, ℤ, pos, neg_ℤ, Result, Ok, Option, Some, None, option_map}
use Rattle.smt_lex.specs.Lexicon.{starts_as}
use Rattle.smt_lex.specs.Lex.{Token, symbol_of, name_of}
use Rattle.smt_lex.specs.Forms.{Form, atom, node, Forms, none, ◌⨾◌}
use Rattle.smt_terms.specs.declared.op.Op.{Op}
use Rattle.smt_terms.specs.declared.op.Op.TheVariants.{Whole, Bits}
use Rattle.smt_terms.specs.BitVectors.{nat2bv}
use Rattle.smt_terms.specs.Equal.{name_eq, sort_eq}
use Rattle.smt_terms.specs.Sorts.{Name, Sort, bool, int, bit_vector, array, free_sort}
use Rattle.smt_terms.specs.Val.{within_range}
use Rattle.smt_terms.specs.Values.{Value, truth, whole, bits, table, no_pairs, store}
use Rattle.script_terms.specs.Heads.{is_vector_name}
use Rattle.script_terms.specs.Parts.{symbol_in, word_in, is_name, numeral_in, constant_by, vector_number}
use Rattle.script_read.specs.Script.{truth_named}
use Rattle.term_table.specs.WrittenForms.{sort_form}
use Rattle.model_texts.specs.Refusals.{Refused, model_sort, not_a_table, model_number, at, where_so}
use Rattle.model_texts.specs.Reading.{Reading, ◌>>=◌, gives, refuses, by_rule, meets}

-- ---- sorts: a form is a sort where it has the tokens that the sort is printed as, bars aside

abbrev mutual
  pub has_tokens : Form → Form → Bool
  has_tokens (atom t) (atom u) = name_eq (name_of t) (name_of u)
  has_tokens (node p fs) (node q gs) = have_tokens fs gs
  has_tokens _ _ = false

  pub have_tokens : Forms → Forms → Bool
  have_tokens none none = true
  have_tokens (f ⨾ fs) (g ⨾ gs) = has_tokens f g && have_tokens fs gs
  have_tokens _ _ = false

abbrev pub is_sort_form : Sort → Form → Bool
is_sort_form s f = has_tokens (sort_form s) f

-- ---- constants

-- a constant with its sort, and whether its number may stand there
pub record Literal : Type 0 where
  pub sort : Sort
  pub in_range : Bool
  pub value : Value

abbrev pub truth_literal : Bool → Literal
truth_literal b = record { sort = bool; in_range = true; value = truth b }

abbrev pub whole_literal : ℤ → Literal
whole_literal n = record { sort = int; in_range = within_range n; value = whole n }

abbrev pub vector_literal : ℕ → ℕ → Literal
vector_literal width n = record { sort = bit_vector width; in_range = nat_lt n (2 ^ width); value = bits (nat2bv width n) }

abbrev pub literal_of : Option Op → Option Name → Option Literal
literal_of (Some (Whole n)) name = Some (whole_literal n)
literal_of (Some (Bits width n)) name = Some (vector_literal width n)
literal_of (Some o) name = None
literal_of None name = option_map truth_literal (truth_named name)

-- a numeral, a bit vector in hexadecimal or binary digits, `true` or `false`
abbrev pub atom_literal : Token → Option Literal
atom_literal t = literal_of (constant_by t.item t.text) (symbol_of t)

-- `(- numeral)`
abbrev pub negative_literal : Option Name → Option ℕ → Option Literal
negative_literal name None = None
negative_literal name (Some n) = if is_name (codes "-") name then Some (whole_literal (neg_ℤ (pos n))) else None

-- `(_ bvX n)`
abbrev pub indexed_literal : Option Name → Option ℕ → Option Literal
indexed_literal (Some name) (Some width) = if is_vector_name (Some name) then Some (vector_literal width (vector_number name)) else None
indexed_literal _ _ = None

-- the constant is one of the sort
abbrev pub literal_value : ℕ → Sort → Option Literal → Result Value Refused
literal_value place s None = at not_a_table place
literal_value place s (Some l) =
    where_so (sort_eq l.sort s) model_sort place (where_so l.in_range model_number place (Ok l.value))

-- ---- elements: `(as @name SORT)`

abbrev pub is_abstract : Name → Bool
is_abstract n = starts_as (λ b. b == 64) n

abbrev pub element_of : ℕ → Sort → Name → Form → Reading Value
element_of place (free_sort s) n f = if is_sort_form (free_sort s) f then meets s n else refuses model_sort place
element_of place s n f = refuses model_sort place

abbrev pub element_named : ℕ → Sort → Option Name → Form → Reading Value
element_named place s None f = refuses not_a_table place
element_named place s (Some n) f = if is_abstract n then element_of place s n f else refuses not_a_table place

-- a list of three forms
abbrev pub qualified_or_indexed : ℕ → Sort → Form → Form → Form → Reading Value
qualified_or_indexed place s f g h =
    if is_name (codes "_") (word_in f) then by_rule (literal_value place s (indexed_literal (symbol_in g) (numeral_in h)))
    else (if is_name (codes "as") (word_in f) then element_named place s (symbol_in g) h
    else refuses not_a_table place)

-- ---- arrays

-- the sort of `(as const SORT)`
abbrev pub filled_sort : Form → Option Form
filled_sort (node place (f ⨾ c ⨾ s ⨾ none)) = if is_name (codes "as") (word_in f) && is_name (codes "const") (symbol_in c) then Some s else None
filled_sort _ = None

-- the array that has one value everywhere
abbrev pub filled : ℕ → Sort → Form → (Sort → Reading Value) → Reading Value
filled place (array i e) f next = if is_sort_form (array i e) f then (next e >>= λ v. gives (table v no_pairs)) else refuses model_sort place
filled place s f next = refuses model_sort place

-- a list of two forms, the second of which is read so
abbrev pub negative_or_filled : ℕ → Sort → Option Literal → Option Form → (Sort → Reading Value) → Reading Value
negative_or_filled place s (Some l) f next = by_rule (literal_value place s (Some l))
negative_or_filled place s None (Some f) next = filled place s f next
negative_or_filled place s None None next = refuses not_a_table place

-- The array with another value at a key, read from its three parts. How many elements there are doesn't matter: no key is
-- an array.
abbrev pub stored : ℕ → Sort → (Sort → Reading Value) → (Sort → Reading Value) → (Sort → Reading Value) → Reading Value
stored place (array i e) old key new = do
  a ← old (array i e)
  k ← key i
  v ← new e
  gives (store i (λ _. 1) a k v)
stored place s old key new = refuses model_sort place

-- ---- the value that a form is, at the sort that is wanted

abbrev pub value_in : Form → Sort → Reading Value
value_in (atom t) s = by_rule (literal_value t.start s (atom_literal t))
value_in (node place (f ⨾ v ⨾ none)) s =
    negative_or_filled place s (negative_literal (symbol_in f) (numeral_in v)) (filled_sort f) (value_in v)
value_in (node place (f ⨾ g ⨾ h ⨾ none)) s = qualified_or_indexed place s f g h
value_in (node place (f ⨾ a ⨾ k ⨾ v ⨾ none)) s =
    if is_name (codes "store") (symbol_in f) then stored place s (value_in a) (value_in k) (value_in v) else refuses not_a_table place
value_in (node place _) s = refuses not_a_table place
