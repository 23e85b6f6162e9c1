-- What a solver writes as its answer: lines of comments, one line that says how the search ended, and lines of values, as solvers of
-- DIMACS texts write them.
use Rattle.std.specs.Prelude.{◌≡◌, ℕ, zero, suc, ◌+◌, Bool, true, false, ◌&&◌, ◌||◌, not, List, [], ◌∷◌, flat_map, length, codes, Option, Some, None, is_some, Result, Ok, Err, if◌then◌else◌, ◌==◌, nat_lt, nat_le, slice_index}
use Rattle.std.specs.Bool.{beq}
use Rattle.std.specs.Char.{is_ascii_digit}
use Rattle.std.specs.List.{list_any, list_all, slice_split}
use Rattle.std.specs.Str.{bytes_eq}
use Rattle.std.specs.Str.Lines.{strip_carriage_return}
use Rattle.std.specs.Str.Parse.{digits_value}
use Rattle.smt_lex.specs.Lex.{line_at}
use Rattle.smt_lex.specs.Lexicon.{space, line_feed}
use Rattle.dimacs_link.specs.declared.answers.Answer.{Answer}
use Rattle.dimacs_link.specs.declared.answers.Answer.TheVariants.{Sat, Unsat, Unknown}
use Rattle.dimacs_link.specs.declared.answers.AnswerFault.{AnswerFault}
use Rattle.dimacs_link.specs.declared.answers.AnswerFault.TheVariants.{Form, Memory}
use Rattle.dimacs_link.specs.declared.items.Item.{Item}
use Rattle.dimacs_link.specs.declared.items.Item.TheVariants.{Status, Values, Number, End, Wrong}
use Rattle.dimacs_link.specs.declared.items.Ending.{Ending}
use Rattle.dimacs_link.specs.declared.items.Ending.TheVariants as ending

-- ---- bytes

abbrev pub hyphen : ℕ
hyphen = 45

abbrev pub digit_zero : ℕ
digit_zero = 48

abbrev pub letter_c : ℕ
letter_c = 99

abbrev pub letter_v : ℕ
letter_v = 118

-- ---- words and lines

-- digits, the first of which isn't 0
abbrev pub is_number : List ℕ → Bool
is_number [] = false
is_number (d ∷ ds) = nat_lt digit_zero d && list_all is_ascii_digit (d ∷ ds)

-- the literal of the constant that a word gives by its number, up to this one
abbrev pub literal_item : ℕ → Bool → List ℕ → Item
literal_item constants positive ds =
    if is_number ds && nat_le (digits_value 10 ds) constants
    then Number (record { positive = positive; constant = digits_value 10 ds }) else Wrong

-- `0`, or a literal: `-` stands before the number of a constant that is false
abbrev pub word_item : ℕ → ℕ → List ℕ → Item
word_item constants b bs =
    if bytes_eq (b ∷ bs) (codes "0") then End
    else (if b == hyphen then literal_item constants false bs
    else literal_item constants true (b ∷ bs))

-- how the search ended, in these words alone
abbrev pub status_item : List ℕ → Item
status_item line =
    if bytes_eq line (codes "s SATISFIABLE") then Status ending.Satisfiable
    else (if bytes_eq line (codes "s UNSATISFIABLE") then Status ending.Unsatisfiable
    else (if bytes_eq line (codes "s UNKNOWN") then Status ending.Unknown
    else Wrong))

-- a part of the text, and the place of its first byte
pub record Piece : Type 0 where
  pub place : ℕ
  pub bytes : List ℕ

-- parts with one byte between each two, the first at this place
abbrev pub placed : ℕ → List (List ℕ) → List Piece
placed place [] = []
placed place (p ∷ ps) = record { place = place; bytes = p } ∷ placed (place + length p + 1) ps

-- the parts between the bytes b
abbrev pub pieces : ℕ → ℕ → List ℕ → List Piece
pieces b place bs = placed place (slice_split (λ c. c == b) bs)

-- between two spaces there may be no word
abbrev pub word_items_at : ℕ → ℕ → List ℕ → List (ℕ × Item)
word_items_at constants place [] = []
word_items_at constants place (b ∷ bs) = (place, word_item constants b bs) ∷ []

abbrev pub word_items : ℕ → Piece → List (ℕ × Item)
word_items constants p = word_items_at constants p.place p.bytes

-- nothing, or words with one or more spaces before each
abbrev pub are_words : List ℕ → Bool
are_words [] = true
are_words (b ∷ bs) = (b == space) && not (slice_index (b ∷ bs) (length bs) == space)

-- what stands behind the `v` of a line, whose place this is
abbrev pub value_items : ℕ → ℕ → List ℕ → List (ℕ × Item)
value_items constants place bs =
    if are_words bs then (place, Values) ∷ flat_map (word_items constants) (pieces space (place + 1) bs)
    else (place, Wrong) ∷ []

-- an empty line and one that begins with `c` have nothing
abbrev pub items_at : ℕ → ℕ → List ℕ → List (ℕ × Item)
items_at constants place [] = []
items_at constants place (b ∷ bs) =
    if b == letter_c then []
    else (if b == letter_v then value_items constants place bs
    else (place, status_item (b ∷ bs)) ∷ [])

-- a CR at the end of a line is left out
abbrev pub line_items : ℕ → Piece → List (ℕ × Item)
line_items constants line = items_at constants line.place (strip_carriage_return line.bytes)

-- the lines and words of a text that count, each with its place
abbrev pub items : ℕ → List ℕ → List (ℕ × Item)
items constants text = flat_map (line_items constants) (pieces line_feed 0 text)

-- ---- what may stand behind what

-- how these items say that the search ended
abbrev pub ending_of : List Item → Option Ending
ending_of [] = None
ending_of (Status e ∷ is) = Some e
ending_of (_ ∷ is) = ending_of is

abbrev pub is_values : Item → Bool
is_values Values = true
is_values _ = false

abbrev pub is_end : Item → Bool
is_end End = true
is_end _ = false

-- the literal of this constant with this sign
abbrev pub is_literal : Bool → ℕ → Item → Bool
is_literal positive constant (Number l) = beq l.positive positive && l.constant == constant
is_literal positive constant _ = false

-- an end without values
abbrev pub has_no_values : Option Ending → Bool
has_no_values None = false
has_no_values (Some ending.Satisfiable) = false
has_no_values (Some _) = true

-- whether an item is wrong where these stand before it
abbrev pub is_wrong : List Item → Item → Bool
is_wrong before (Status e) = is_some (ending_of before) || (has_no_values (Some e) && list_any is_values before)
is_wrong before Values = has_no_values (ending_of before)
is_wrong before (Number l) = list_any is_end before || list_any (is_literal (not l.positive) l.constant) before
is_wrong before End = list_any is_end before
is_wrong before Wrong = true

-- the items, the last first, in front of those before them, or the place of the first wrong one
abbrev pub checked : List Item → List (ℕ × Item) → Result (List Item) ℕ
checked before [] = Ok before
checked before (i ∷ is) = if is_wrong before i.1 then Err i.0 else checked (i.1 ∷ before) is

-- ---- the answer

-- whether each of so many constants, from this one on, is named with this sign
abbrev pub named_from : Bool → List Item → ℕ → ℕ → List Bool
named_from positive is constant zero = []
named_from positive is constant (suc n) = list_any (is_literal positive constant) is ∷ named_from positive is (suc constant) n

abbrev pub named : Bool → List Item → ℕ → List Bool
named positive is constants = named_from positive is 1 constants

-- a text of this length with this end, these values, and whether a `0` ends them
abbrev pub answer_by : ℕ → Option Ending → List Bool → Bool → Result Answer ℕ
answer_by size None values ended = Err size
answer_by size (Some ending.Satisfiable) values ended = if ended then Ok (Sat values) else Err size
answer_by size (Some ending.Unsatisfiable) values ended = Ok Unsat
answer_by size (Some ending.Unknown) values ended = Ok Unknown

abbrev pub answer_of : ℕ → ℕ → Result (List Item) ℕ → Result Answer ℕ
answer_of constants size (Ok is) = answer_by size (ending_of is) (named true is constants) (list_any is_end is)
answer_of constants size (Err place) = Err place

-- what the text answers, or the place of its first fault; a constant that isn't named is false
unfoldable pub reading : ℕ → List ℕ → Result Answer ℕ
reading constants text = answer_of constants (length text) (checked [] (items constants text))

-- truth values are so many
abbrev pub HasValues : ℕ → Answer → Type 0
HasValues constants (Sat values) = length values ≡ constants
HasValues constants Unsat = Unit {0}
HasValues constants Unknown = Unit {0}

-- the fault with its line; memory may be wanting anywhere
abbrev pub IsFaultOf : ℕ → List ℕ → AnswerFault → Type 0
IsFaultOf constants text (Form line byte) = (reading constants text ≡ Err byte) × (line ≡ line_at text byte)
IsFaultOf constants text Memory = Unit {0}
