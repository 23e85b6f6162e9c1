-- The tokens of a text as they are collected from left to right.
use Rattle.std.specs.Prelude.{◌≡◌, ℕ, Bool, suc, ◌+◌, ◌-◌, ◌<◌, ◌≤◌, ◌^◌, ◌⊎◌, true, false, ◌&&◌, List, [], ◌∷◌, ◌++◌, length, drop, map, Result, Ok, Err, ◌==◌, if◌then◌else◌, slice_index_or, slice_range}
use Rattle.smt_lex.specs.declared.items.Item.{Item}
use Rattle.smt_lex.specs.declared.items.Item.TheVariants.{Left, Right, Quoted}
use Rattle.smt_lex.specs.declared.items.Until.{Until}
use Rattle.smt_lex.specs.declared.items.Until.TheVariants.{End, Exit}
use Rattle.smt_lex.specs.declared.fronts.Front.{Front}
use Rattle.smt_lex.specs.declared.fronts.Front.TheVariants.{Gap, Lexeme, BadByte}
use Rattle.smt_lex.specs.declared.entries.Entry.{Entry}
use Rattle.smt_lex.specs.Lex.{Token, Fault, Lexed, ended, lex_at}
use Rattle.smt_lex.specs.Forms.{is_left, is_right, is_exit_word, depth_after, balanced, first_tokens, begins_with_right, begins_with_name, to_exit, tokens_of}
use Rattle.smt_lex.specs.Forest.{token_at, closing, form_length, IsBalanced, Source}

-- the bytes begin with so much, and it isn't empty
abbrev pub FitsIn : ℕ → Front → Type 0
FitsIn length (Gap n) = (0 < n) × (n ≤ length)
FitsIn length (Lexeme Quoted n) = (1 < n) × (n ≤ length)
FitsIn length (Lexeme item n) = (0 < n) × (n ≤ length)
FitsIn length (BadByte n) = n < length
FitsIn length _ = Unit {0}

-- the token between two places
abbrev pub token : List ℕ → Item → ℕ → ℕ → Token
token bytes item start end = record { item = item; start = start; text = slice_range bytes start end }

abbrev pub entry_end : Entry → ℕ
entry_end e = if is_left e.item then e.start + 1 else e.link

-- the number of the token behind the form that begins at token i
abbrev pub entry_after : Entry → ℕ → ℕ
entry_after e i = if is_left e.item then e.link else i + 1

abbrev pub token_of : List ℕ → Entry → Token
token_of bytes e = token bytes e.item e.start (entry_end e)

abbrev pub tokens_in : List ℕ → List Entry → List Token
tokens_in bytes es = map (token_of bytes) es

abbrev pub entry_items : List Entry → List Item
entry_items es = map (λ e. e.item) es

abbrev pub no_entry : Entry
no_entry = record { start = 0; link = 0; item = Right }

abbrev pub entry_at : List Entry → ℕ → Entry
entry_at es i = slice_index_or es i no_entry

-- How much of a form `(exit)` that stands in no other the last tokens are: that is of no matter, nothing of it, its
-- `(`, its `(exit`, all of it.
pub data Watch : Type 0 where
  Never : Watch
  Elsewhere : Watch
  Opened : Watch
  Named : Watch
  Met : Watch

-- how much of a form `(exit)` that stands in no other the last tokens are, after one more
abbrev pub watch_after : Watch → ℕ → Item → List ℕ → Watch
watch_after Never depth item text = Never
watch_after Elsewhere depth item text = if is_left item && depth == 0 then Opened else Elsewhere
watch_after Opened depth item text = if is_exit_word item text then Named else Elsewhere
watch_after Named depth item text = if is_right item then Met else Elsewhere
watch_after Met depth item text = Met

-- the part of the tokens to come that is examined, where depth lists are open
abbrev pub left_of : Watch → ℕ → Lexed → Lexed
left_of Never depth ts = ts
left_of Elsewhere depth ts = to_exit depth ts
left_of Opened depth ts = if begins_with_name ts then first_tokens 2 ts else to_exit depth ts
left_of Named depth ts = if begins_with_right ts then first_tokens 1 ts else to_exit depth ts
left_of Met depth ts = ended 0

-- the text is examined up to a form `(exit)`
abbrev pub is_exit : Until → Bool
is_exit End = false
is_exit Exit = true

abbrev pub last_token : List Token → Token
last_token ts = token_at ts (length ts - 1)

-- the last two tokens are `(` and `exit`
abbrev pub names_exit : List Token → Bool
names_exit ts = is_left (token_at ts (length ts - 2)).item && is_exit_word (last_token ts).item (last_token ts).text

-- what is watched where one list is open, by whether the last token is a `(`, and whether the last two are `(` and `exit`
abbrev pub watch_by : Bool → Bool → Watch
watch_by true names = Opened
watch_by false true = Named
watch_by false false = Elsewhere

-- how much of a form `(exit)` the tokens end with, behind which so many lists are open
abbrev pub watched : Until → ℕ → List Token → Watch
watched End depth ts = Never
watched Exit depth ts = if depth == 1 then watch_by (is_left (last_token ts).item) (names_exit ts) else Elsewhere

-- so many lists are open
abbrev pub AtTop : Watch → ℕ → Type 0
AtTop Opened depth = depth ≡ 1
AtTop Named depth = depth ≡ 1
AtTop Met depth = depth ≡ 0
AtTop _ depth = Unit {0}

abbrev pub prefixed : List Token → Result (List Token) Fault → Result (List Token) Fault
prefixed ts (Ok us) = Ok (ts ++ us)
prefixed ts (Err fault) = Err fault

-- what comes of a text of which so much was read, and which goes on with these tokens
unfoldable pub outcome : List ℕ → Watch → List Entry → List ℕ → Lexed → Result (List Token) Fault
outcome bytes watch es lists behind = prefixed (tokens_in bytes es) (balanced (length lists) (left_of watch (length lists) behind))

-- a token that is no parenthesis
abbrev pub IsAtom : Item → Type 0
IsAtom item = (is_left item ≡ false) × (is_right item ≡ false) × ((depth : ℕ) → depth_after item depth ≡ depth)

-- a token that the bytes begin with is no parenthesis
abbrev pub HasAtom : Front → Type 0
HasAtom (Lexeme item n) = IsAtom item
HasAtom _ = Unit {0}

-- whatever follows, the form that begins at entry i ends before this one
abbrev pub EndsAt : List Entry → ℕ → ℕ → Type 0
EndsAt es i after = (more : List Item) → i + form_length (drop i (entry_items es ++ more)) ≡ after

-- whatever follows, the list of entry i is closed by what closes this many lists behind the entries
abbrev pub ClosesBehind : List Entry → ℕ → ℕ → Type 0
ClosesBehind es i depth = (more : List Item) → suc i + closing 0 (drop (suc i) (entry_items es ++ more)) ≡ length es + closing depth more

-- the list of entry i is open
abbrev pub IsOpen : List ℕ → ℕ → Type 0
IsOpen lists i = (j : ℕ) × (j < length lists) × (slice_index_or lists j 0 ≡ i)

-- the open lists from the outermost to the innermost; each other form ends where its entry says
pub record Nests (es : List Entry) (lists : List ℕ) : Type 0 where
  pub below : (j : ℕ) → j < length lists → slice_index_or lists j 0 < length es
  pub lefts : (j : ℕ) → j < length lists → (entry_at es (slice_index_or lists j 0)).item ≡ Left
  pub behind : (j : ℕ) → j < length lists → ClosesBehind es (slice_index_or lists j 0) (length lists - suc j)
  pub ends : (i : ℕ) → i < length es → IsOpen lists i ⊎ EndsAt es i (entry_after (entry_at es i) i)

-- an entry stands in the bytes before a place
pub record Stands (place : ℕ) (e : Entry) : Type 0 where
  pub some : e.start < entry_end e
  pub within : entry_end e ≤ place
  pub bars : e.item ≡ Quoted → suc e.start < entry_end e

-- the entries stand one behind the other before a place
pub record Spans (place : ℕ) (es : List Entry) : Type 0 where
  pub count : length es ≤ place
  pub stands : (i : ℕ) → i < length es → Stands place (entry_at es i)
  pub order : (i j : ℕ) → i < j → j < length es → entry_end (entry_at es i) ≤ (entry_at es j).start

-- an entry more, and what it opens or closes
pub record Puts (item : Item) (start end : ℕ) (es fs : List Entry) (lists left : List ℕ) : Type 0 where
  pub tokens : (bytes : List ℕ) → tokens_in bytes fs ≡ tokens_in bytes es ++ token bytes item start end ∷ []
  pub depth : length left ≡ depth_after item (length lists)
  pub nests : Nests fs left
  pub spans : Spans start es → Spans end fs

-- a builder at a place of a text
pub record Going (until : Until) (bytes : List ℕ) (place : ℕ) (es : List Entry) (lists : List ℕ) : Type 0 where
  pub within : place ≤ length bytes
  pub spans : Spans place es
  pub nests : Nests es lists
  pub same : outcome bytes (watched until (length lists) (tokens_in bytes es)) es lists (lex_at bytes place) ≡ tokens_of until bytes

-- what a forest keeps
pub record IsForest (bytes : List ℕ) (es : List Entry) : Type 0 where
  pub small : length bytes < 2 ^ 32
  pub spans : Spans (length bytes) es
  pub ends : Nests es []
  pub balanced : IsBalanced (tokens_in bytes es)

abbrev pub source : List ℕ → List Entry → Source
source bytes es = record { bytes = bytes; tokens = tokens_in bytes es }
