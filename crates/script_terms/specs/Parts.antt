-- What forms are, part by part: symbols, numerals, keywords, constants, and the words that lists begin with.
-- SMT-LIB 2.6, sections 3.1, 3.2 and 3.6.
use Rattle.std.specs.Prelude.{ℕ, ◌-◌, ◌*◌, ◌^◌, Bool, true, false, ◌&&◌, List, [], ◌∷◌, length, drop, codes, bytes_eq, pos, Option, Some, None, is_some, if◌then◌else◌}
use Rattle.std.specs.Str.Parse.{digits_value}
use Rattle.smt_lex.specs.Names.{Name}
use Rattle.smt_lex.specs.Lex.{symbol_of}
use Rattle.smt_lex.specs.Forms.{Form, atom, node, Forms, none, ◌⨾◌}
use Rattle.smt_lex.specs.declared.items.Item.{Item}
use Rattle.smt_lex.specs.declared.items.Item.TheVariants.{Numeral, Hex, Bin, Text, Word, Keyword}
use Rattle.smt_terms.specs.declared.op.Op.{Op}
use Rattle.smt_terms.specs.declared.op.Op.TheVariants.{Whole, Bits}
use Rattle.smt_terms.specs.Term.{Quantifier, universal, existential}

-- the place of a form is its first byte
abbrev pub place_of : Form → ℕ
place_of (atom t) = t.start
place_of (node place fs) = place

abbrev pub symbol_in : Form → Option Name
symbol_in (atom t) = symbol_of t
symbol_in (node place fs) = None

abbrev pub is_symbol : Form → Bool
is_symbol f = is_some (symbol_in f)

-- a word, reserved or not, without bars
abbrev pub word_by : Item → List ℕ → Option Name
word_by Word text = Some text
word_by _ text = None

abbrev pub word_in : Form → Option Name
word_in (atom t) = word_by t.item t.text
word_in (node place fs) = None

abbrev pub is_name : Name → Option Name → Bool
is_name n None = false
is_name n (Some m) = bytes_eq m n

-- ---- numerals, keywords and literals

abbrev pub numeral_by : Item → List ℕ → Option ℕ
numeral_by Numeral text = Some (digits_value 10 text)
numeral_by _ text = None

abbrev pub numeral_in : Form → Option ℕ
numeral_in (atom t) = numeral_by t.item t.text
numeral_in (node place fs) = None

abbrev pub keyword_by : Item → List ℕ → Option Name
keyword_by Keyword text = Some text
keyword_by _ text = None

abbrev pub keyword_in : Form → Option Name
keyword_in (atom t) = keyword_by t.item t.text
keyword_in (node place fs) = None

abbrev pub is_keyword : Form → Bool
is_keyword f = is_some (keyword_in f)

abbrev pub is_text_by : Item → Bool
is_text_by Text = true
is_text_by _ = false

abbrev pub is_text : Form → Bool
is_text (atom t) = is_text_by t.item
is_text (node place fs) = false

-- the greatest numeral that is read
abbrev pub greatest_number : ℕ
greatest_number = 2 ^ 127 - 1

-- the constant that a numeral, a hexadecimal or a binary token is: a hexadecimal digit has four bits
abbrev pub constant_by : Item → List ℕ → Option Op
constant_by Numeral text = Some (Whole (pos (digits_value 10 text)))
constant_by Hex text = Some (Bits (4 * (length text - 2)) (digits_value 16 (drop 2 text)))
constant_by Bin text = Some (Bits (length text - 2) (digits_value 2 (drop 2 text)))
constant_by _ text = None

-- the number X of a name `bvX`
abbrev pub vector_number : Name → ℕ
vector_number n = digits_value 10 (drop 2 n)

-- ---- lists

-- the numerals of a list of nothing else
abbrev pub numerals_with : Option ℕ → Option (List ℕ) → Option (List ℕ)
numerals_with (Some n) (Some ns) = Some (n ∷ ns)
numerals_with _ _ = None

abbrev pub numerals_in : Forms → Option (List ℕ)
numerals_in none = Some []
numerals_in (f ⨾ fs) = numerals_with (numeral_in f) (numerals_in fs)

-- how a list begins that may be a term
pub data Opening : Type 0 where
  let_word : Opening
  quantifier_word : Quantifier → Opening
  -- `!`
  annotation_word : Opening
  -- `_`
  index_word : Opening
  -- anything else: the head of an application
  head : Form → Opening

abbrev pub opening_word : Form → Option Name → Opening
opening_word f None = head f
opening_word f (Some w) =
    if bytes_eq w (codes "let") then let_word
    else (if bytes_eq w (codes "forall") then quantifier_word universal
    else (if bytes_eq w (codes "exists") then quantifier_word existential
    else (if bytes_eq w (codes "!") then annotation_word
    else (if bytes_eq w (codes "_") then index_word
    else head f))))

abbrev pub opening : Form → Opening
opening f = opening_word f (word_in f)

-- ---- attributes: SMT-LIB 2.6, section 3.4

-- what follows a keyword is one form that is no keyword, or nothing; then come further attributes
abbrev mutual
  pub after_keyword : Forms → Bool
  after_keyword none = true
  after_keyword (f ⨾ fs) = if is_keyword f then after_keyword fs else after_attribute fs

  pub after_attribute : Forms → Bool
  after_attribute none = true
  after_attribute (f ⨾ fs) = is_keyword f && after_keyword fs

-- one or more attributes
abbrev pub are_attributes : Forms → Bool
are_attributes none = false
are_attributes (f ⨾ fs) = after_attribute (f ⨾ fs)

abbrev pub value_first : Forms → Option Form
value_first none = None
value_first (f ⨾ fs) = if is_keyword f then None else Some f

-- the form behind each `:named`, if there is one
abbrev pub named_parts : Forms → List (Option Form)
named_parts none = []
named_parts (f ⨾ fs) = if is_name (codes ":named") (keyword_in f) then value_first fs ∷ named_parts fs else named_parts fs
