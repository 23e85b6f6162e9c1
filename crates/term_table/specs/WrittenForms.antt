-- Names, numbers, constants and sorts as the forms that are written for them: SMT-LIB 2.6, sections 3.1, 3.5 and 3.6, and the constants of the theories
-- Core, Ints and FixedSizeBitVectors. Forms that are printed have no places of their own: each place is 0.
use Rattle.std.specs.Prelude.{ℕ, zero, suc, ◌/◌, ◌%◌, ◌==◌, Bool, true, false, if◌then◌else◌, List, [], ◌∷◌, ◌++◌, map, codes, ℤ, pos, int_lt, unsigned_abs}
use Rattle.std.specs.Char.{digit_char}
use Rattle.smt_lex.specs.Names.{Name, is_simple, printed_symbol}
use Rattle.smt_lex.specs.Forms.{Form, atom, node, forms_of_list}
use Rattle.smt_lex.specs.declared.items.Item.{Item}
use Rattle.smt_lex.specs.declared.items.Item.TheVariants.{Numeral, Hex, Bin, Word, Quoted, Keyword}
use Rattle.smt_values.specs.declared.scalar.Scalar.{Scalar}
use Rattle.smt_values.specs.declared.scalar.Scalar.TheVariants.{Truth, Whole, Bits}
use Rattle.smt_terms.specs.Numeral.{numeral}
use Rattle.smt_terms.specs.Sorts.{Sort, bool, int, bit_vector, array, free_sort, Variable}

-- ---- tokens and lists

abbrev pub token_form : Item → List ℕ → Form
token_form item text = atom (record { item = item; start = 0; text = text })

abbrev pub list_form : List Form → Form
list_form fs = node 0 (forms_of_list fs)

-- a word of the syntax, or a symbol that has no bars
abbrev pub word_form : List ℕ → Form
word_form text = token_form Word text

abbrev pub keyword_form : List ℕ → Form
keyword_form text = token_form Keyword text

-- a symbol, with bars where it would be no symbol without them
abbrev pub symbol_form : Name → Form
symbol_form n = token_form (if is_simple n then Word else Quoted) (printed_symbol n)

abbrev pub numeral_form : ℕ → Form
numeral_form n = token_form Numeral (numeral n)

-- `(_ name index ..)`
abbrev pub indexed_form : List ℕ → List ℕ → Form
indexed_form name indices = list_form (word_form (codes "_") ∷ word_form name ∷ map numeral_form indices)

-- ---- constants

abbrev pub truth_form : Bool → Form
truth_form true = word_form (codes "true")
truth_form false = word_form (codes "false")

-- a negative number is the unary minus of its magnitude
abbrev pub integer_form : ℤ → Form
integer_form n =
    if int_lt n (pos 0)
    then list_form (word_form (codes "-") ∷ numeral_form (unsigned_abs n) ∷ [])
    else numeral_form (unsigned_abs n)

-- the last digits of a number to a base, so many, highest first, in front of what is given
abbrev pub last_digits : ℕ → ℕ → ℕ → List ℕ → List ℕ
last_digits base zero n after = after
last_digits base (suc count) n after = last_digits base count (n / base) (digit_char (n % base) ∷ after)

-- the bit vector of a width that is this number: in hexadecimal digits where these have as many bits, else in binary ones
abbrev pub vector_form : ℕ → ℕ → Form
vector_form width n =
    if width % 4 == 0
    then token_form Hex (codes "#x" ++ last_digits 16 (width / 4) n [])
    else token_form Bin (codes "#b" ++ last_digits 2 width n [])

abbrev pub scalar_form : Scalar → Form
scalar_form (Truth b) = truth_form b
scalar_form (Whole n) = integer_form n
scalar_form (Bits width n) = vector_form width n

-- ---- sorts

abbrev pub sort_form : Sort → Form
sort_form bool = word_form (codes "Bool")
sort_form int = word_form (codes "Int")
sort_form (bit_vector width) = indexed_form (codes "BitVec") (width ∷ [])
sort_form (array i e) = list_form (word_form (codes "Array") ∷ sort_form i ∷ sort_form e ∷ [])
sort_form (free_sort n) = symbol_form n

-- `(as const SORT)`, the head of a constant array
abbrev pub constant_array_form : Sort → Form
constant_array_form s = list_form (word_form (codes "as") ∷ word_form (codes "const") ∷ sort_form s ∷ [])

-- `(x SORT)`
abbrev pub variable_form : Variable → Form
variable_form x = list_form (symbol_form x.name ∷ sort_form x.sort ∷ [])
