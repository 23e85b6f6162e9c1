-- The bytes and runs of SMT-LIB 2.6, section 3.1. A text is its bytes.
use Rattle.std.specs.Prelude.{ℕ, suc, ◌+◌, Bool, false, ◌&&◌, ◌||◌, not, List, [], ◌∷◌, length, take, drop, codes, Option, Some, None, ◌==◌, nat_eq, if◌then◌else◌}
use Rattle.std.specs.List.{list_all, list_any, starts_with}
use Rattle.std.specs.Char.{is_ascii_digit, is_ascii_alphanumeric, is_ascii_hexdigit}
use Rattle.smt_lex.specs.declared.items.Item.{Item}
use Rattle.smt_lex.specs.declared.items.Item.TheVariants.{Numeral, Decimal, Hex, Bin, Word, Keyword}

abbrev pub tab : ℕ
tab = 9

abbrev pub line_feed : ℕ
line_feed = 10

abbrev pub carriage_return : ℕ
carriage_return = 13

abbrev pub space : ℕ
space = 32

abbrev pub quote : ℕ
quote = 34

abbrev pub hash : ℕ
hash = 35

abbrev pub left_parenthesis : ℕ
left_parenthesis = 40

abbrev pub right_parenthesis : ℕ
right_parenthesis = 41

abbrev pub digit_zero : ℕ
digit_zero = 48

abbrev pub digit_one : ℕ
digit_one = 49

abbrev pub colon : ℕ
colon = 58

abbrev pub semicolon : ℕ
semicolon = 59

abbrev pub backslash : ℕ
backslash = 92

abbrev pub bar : ℕ
bar = 124

-- white space
abbrev pub is_blank : ℕ → Bool
is_blank b = b == tab || b == line_feed || b == carriage_return || b == space

-- a byte that ends a comment
abbrev pub is_line_end : ℕ → Bool
is_line_end b = b == line_feed || b == carriage_return

-- the symbol bytes that are no letters and no digits
abbrev pub is_symbol_mark : ℕ → Bool
is_symbol_mark b = list_any (λ mark. b == mark) (codes "~!@$%^&*_-+=<>.?/")

-- the bytes of simple symbols
abbrev pub is_symbol_byte : ℕ → Bool
is_symbol_byte b = is_ascii_alphanumeric b || is_symbol_mark b

-- the bytes of runs
abbrev pub is_run_byte : ℕ → Bool
is_run_byte b = is_symbol_byte b || b == colon || b == hash

-- how many bytes stand before the first one that fails the test
abbrev pub length_while : (ℕ → Bool) → List ℕ → ℕ
length_while test [] = 0
length_while test (b ∷ bs) = if test b then suc (length_while test bs) else 0

-- the first byte passes the test
abbrev pub starts_as : (ℕ → Bool) → List ℕ → Bool
starts_as test [] = false
starts_as test (b ∷ bs) = test b

-- one or more bytes that pass the test
abbrev pub is_some_of : (ℕ → Bool) → List ℕ → Bool
is_some_of test bs = list_all test bs && not (length bs == 0)

abbrev pub is_binary_digit : ℕ → Bool
is_binary_digit b = b == digit_zero || b == digit_one

-- a simple symbol or a reserved word: symbol bytes that don't begin with a digit
abbrev pub is_word : List ℕ → Bool
is_word run = not (starts_as is_ascii_digit run) && is_some_of is_symbol_byte run

-- `0`, or digits that begin with another digit than 0
abbrev pub is_numeral : List ℕ → Bool
is_numeral run = is_some_of is_ascii_digit run && (not (starts_with nat_eq run (codes "0")) || length run == 1)

-- a colon and one or more symbol bytes
abbrev pub is_keyword : List ℕ → Bool
is_keyword run = starts_with nat_eq run (codes ":") && is_some_of is_symbol_byte (drop 1 run)

-- a numeral, a dot and one or more digits
abbrev pub is_decimal : List ℕ → Bool
is_decimal run =
    let whole = length_while is_ascii_digit run in
    is_numeral (take whole run) && starts_with nat_eq (drop whole run) (codes ".") && is_some_of is_ascii_digit (drop (whole + 1) run)

-- `#x` and one or more hexadecimal digits of either case
abbrev pub is_hexadecimal : List ℕ → Bool
is_hexadecimal run = starts_with nat_eq run (codes "#x") && is_some_of is_ascii_hexdigit (drop 2 run)

-- `#b` and one or more binary digits
abbrev pub is_binary : List ℕ → Bool
is_binary run = starts_with nat_eq run (codes "#b") && is_some_of is_binary_digit (drop 2 run)

-- which token a run is, if any
abbrev pub run_item : List ℕ → Option Item
run_item run =
    if is_word run then Some Word
    else (if is_numeral run then Some Numeral
    else (if is_keyword run then Some Keyword
    else (if is_decimal run then Some Decimal
    else (if is_hexadecimal run then Some Hex
    else (if is_binary run then Some Bin
    else None)))))
