-- The tokens of a text (SMT-LIB 2.6, section 3.1), with their places: bytes counted from 0.
use Rattle.std.specs.Prelude.{◌≡◌, ℕ, zero, suc, ◌+◌, ◌-◌, Bool, false, ◌&&◌, not, List, [], ◌∷◌, length, take, drop, count_by, Option, Some, None, ◌==◌, nat_lt, if◌then◌else◌}
use Rattle.smt_lex.specs.Lexicon.{line_feed, quote, left_parenthesis, right_parenthesis, semicolon, backslash, bar, is_blank, is_line_end, is_run_byte, length_while, run_item}
use Rattle.smt_lex.specs.Names.{Name, is_reserved}
use Rattle.smt_lex.specs.declared.items.Item.{Item}
use Rattle.smt_lex.specs.declared.items.Item.TheVariants.{Left, Right, Text, Word, Quoted}
use Rattle.smt_lex.specs.declared.fronts.Front.{Front}
use Rattle.smt_lex.specs.declared.fronts.Front.TheVariants.{Gap, Lexeme, BadByte, BadToken, OpenText}

pub record Token : Type 0 where
  pub item : Item
  pub start : ℕ
  pub text : List ℕ

-- what is wrong with a text, and where
pub data Fault : Type 0 where
  bad_byte : ℕ → Fault
  bad_token : ℕ → Fault
  open_text : ℕ → Fault
  unbalanced : ℕ → Fault

-- the tokens of a text in order, and behind them its length or its first fault
pub data Lexed : Type 0 where
  ended : ℕ → Lexed
  faulty : Fault → Lexed
  next : Token → Lexed → Lexed

-- a length with more bytes before it
abbrev pub longer : ℕ → Option ℕ → Option ℕ
longer more None = None
longer more (Some n) = Some (more + n)

-- How many bytes there are up to and including the quote that closes a literal. A quote closes it unless another
-- stands behind it: the two are one quote of the literal. Such a quote was met, and the next byte decides, where pending.
abbrev pub literal_from : Bool → List ℕ → Option ℕ
literal_from pending [] = if pending then Some 0 else None
literal_from pending (b ∷ bs) =
    if pending && not (b == quote) then Some 0
    else longer 1 (literal_from (not pending && b == quote) bs)

abbrev pub literal_length : List ℕ → Option ℕ
literal_length bs = literal_from false bs

-- a literal whose first quote stands before the bytes
abbrev pub literal_by : Option ℕ → Front
literal_by (Some n) = Lexeme Text (suc n)
literal_by None = OpenText

abbrev pub literal_front : List ℕ → Front
literal_front bs = literal_by (literal_length bs)

-- a quoted symbol whose first bar stands before the bytes: the next bar closes it, and no backslash stands between
abbrev pub quoted_front : List ℕ → Front
quoted_front bs =
    let inside = length_while (λ b. not (b == bar)) bs in
    let clean = length_while (λ b. not (b == backslash)) (take inside bs) in
    if inside == length bs then OpenText
    else (if nat_lt clean inside then BadByte (suc clean)
    else Lexeme Quoted (inside + 2))

-- the longest run that the bytes begin with
abbrev pub run_by : Option Item → ℕ → Front
run_by (Some item) n = Lexeme item n
run_by None n = BadToken

abbrev pub run_front : List ℕ → Front
run_front bs = let n = length_while is_run_byte bs in run_by (run_item (take n bs)) n

-- what the bytes begin with, and how many bytes that is
abbrev pub front : List ℕ → Front
front [] = BadByte 0
front (b ∷ bs) =
    if b == left_parenthesis then Lexeme Left 1
    else (if b == right_parenthesis then Lexeme Right 1
    else (if b == semicolon then Gap (suc (length_while (λ c. not (is_line_end c)) bs))
    else (if b == quote then literal_front bs
    else (if b == bar then quoted_front bs
    else (if is_blank b then Gap 1
    else (if is_run_byte b then run_front (b ∷ bs)
    else BadByte 0))))))

-- how many bytes that takes off
abbrev pub front_length : Front → ℕ
front_length (Gap n) = n
front_length (Lexeme item n) = n
front_length _ = 0

-- the tokens of bytes that begin at a place, from what the bytes begin with and the tokens behind it
abbrev pub lexed : Front → ℕ → List ℕ → Lexed → Lexed
lexed (Gap n) place bytes behind = behind
lexed (Lexeme item n) place bytes behind = next (record { item = item; start = place; text = take n bytes }) behind
lexed (BadByte n) place bytes behind = faulty (bad_byte (place + n))
lexed BadToken place bytes behind = faulty (bad_token place)
lexed OpenText place bytes behind = faulty (open_text place)

-- the tokens of bytes that begin at a place; the first skip bytes belong to what was just taken off
abbrev pub lex_from : ℕ → ℕ → List ℕ → Lexed
lex_from place skip [] = ended place
lex_from place (suc skip) (b ∷ bs) = lex_from (suc place) skip bs
lex_from place zero (b ∷ bs) = lexed (front (b ∷ bs)) place (b ∷ bs) (lex_from (suc place) (front_length (front (b ∷ bs)) - 1) bs)

-- the tokens of a text
abbrev pub lex : List ℕ → Lexed
lex bytes = lex_from 0 0 bytes

-- the tokens from a place on
abbrev pub lex_at : List ℕ → ℕ → Lexed
lex_at bytes place = lex_from place 0 (drop place bytes)

-- the line of a place: 1 and the number of LF before it
abbrev pub line_at : List ℕ → ℕ → ℕ
line_at bytes place = suc (count_by (λ b. b == line_feed) (take place bytes))

-- the name of a quoted symbol stands between its bars; of another token it is the text
abbrev pub name_by : Item → List ℕ → Name
name_by Quoted text = take (length text - 2) (drop 1 text)
name_by _ text = text

abbrev pub name_of : Token → Name
name_of token = name_by token.item token.text

-- the symbol that a token is: a word that isn't reserved, or a quoted symbol
abbrev pub symbol_by : Item → List ℕ → Option Name
symbol_by Word text = if is_reserved text then None else Some text
symbol_by Quoted text = Some (name_by Quoted text)
symbol_by _ text = None

abbrev pub symbol_of : Token → Option Name
symbol_of token = symbol_by token.item token.text

-- the text is one token, and that is the symbol of this name
abbrev pub IsOneSymbol : List ℕ → Name → Type 0
IsOneSymbol text name = (token : Token) × (lex text ≡ next token (ended (length text))) × (symbol_of token ≡ Some name)
