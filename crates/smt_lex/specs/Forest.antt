-- A text as a flat list of its tokens, and the forms in it by the numbers of their first tokens.
use Rattle.std.specs.Prelude.{◌≡◌, ℕ, suc, ◌+◌, ◌<◌, ◌≤◌, ◌^◌, Bool, true, ◌&&◌, not, List, [], ◌∷◌, length, drop, map, Option, Some, None, Result, Err, ◌==◌, if◌then◌else◌, slice_range, slice_index_or}
use Rattle.smt_lex.specs.declared.items.Item.{Item}
use Rattle.smt_lex.specs.declared.items.Item.TheVariants.{Right}
use Rattle.smt_lex.specs.declared.faults.LexFault.{LexFault}
use Rattle.smt_lex.specs.declared.faults.LexFault.TheVariants.{BadByte, BadToken, OpenText, Unbalanced, Memory}
use Rattle.smt_lex.specs.Lex.{Token, Fault, bad_byte, bad_token, open_text, unbalanced, line_at}
use Rattle.smt_lex.specs.Forms.{Form, Forms, none, ◌⨾◌, is_left, is_right, depth_after, rest}

-- the bytes of a text, and its tokens in order
pub record Source : Type 0 where
  pub bytes : List ℕ
  pub tokens : List Token

-- stands for a token past the last one
abbrev pub no_token : Token
no_token = record { item = Right; start = 0; text = [] }

abbrev pub token_at : List Token → ℕ → Token
token_at ts i = slice_index_or ts i no_token

abbrev pub end_of : Token → ℕ
end_of t = t.start + length t.text

abbrev pub items : List Token → List Item
items ts = map (λ t. t.item) ts

-- how many tokens there are up to and including the `)` that closes the list around them and depth lists in it
abbrev pub closing : ℕ → List Item → ℕ
closing depth [] = 0
closing depth (item ∷ more) = if is_right item && depth == 0 then 1 else suc (closing (depth_after item depth) more)

-- how many tokens the form has that begins here; a `)` begins none, and counts as one
abbrev pub form_length : List Item → ℕ
form_length [] = 0
form_length (item ∷ more) = if is_left item then suc (closing 0 more) else 1

-- the number of the token behind the form that begins at token i
abbrev pub after_at : List Token → ℕ → ℕ
after_at ts i = i + form_length (drop i (items ts))

-- each `)` closes a list, where depth lists are open before, and none is open in the end
abbrev pub closes : ℕ → List Item → Bool
closes depth [] = depth == 0
closes depth (item ∷ more) = not (is_right item && depth == 0) && closes (depth_after item depth) more

abbrev pub IsBalanced : List Token → Type 0
IsBalanced ts = closes 0 (items ts) ≡ true

-- what holds of each text that was scanned: its tokens stand one behind the other, and its parentheses match
pub record IsScanned (s : Source) : Type 0 where
  pub small : length s.bytes < 2 ^ 32
  pub balanced : IsBalanced s.tokens
  pub some : (i : ℕ) → i < length s.tokens → 0 < length (token_at s.tokens i).text
  pub within : (i : ℕ) → i < length s.tokens → end_of (token_at s.tokens i) ≤ length s.bytes
  pub texts : (i : ℕ) → i < length s.tokens → (token_at s.tokens i).text ≡ slice_range s.bytes (token_at s.tokens i).start (end_of (token_at s.tokens i))
  pub order : (i j : ℕ) → i < j → j < length s.tokens → end_of (token_at s.tokens i) ≤ (token_at s.tokens j).start

-- what is left to read at token i
abbrev pub rest_at : List Token → ℕ → Forms × List Forms
rest_at ts i = rest (drop i ts)

-- the form that begins at token i
abbrev pub first_form : Forms → Option Form
first_form none = None
first_form (f ⨾ fs) = Some f

abbrev pub form_at : List Token → ℕ → Option Form
form_at ts i = first_form (rest_at ts i).0

-- the text has this fault, or memory ran out
abbrev pub Refuses : {A : Type 0} → List ℕ → Result A Fault → LexFault → Type 0
Refuses bytes read Memory = Unit {0}
Refuses bytes read (BadByte place line) = (read ≡ Err (bad_byte place)) × (line ≡ line_at bytes place)
Refuses bytes read (BadToken place line) = (read ≡ Err (bad_token place)) × (line ≡ line_at bytes place)
Refuses bytes read (OpenText place line) = (read ≡ Err (open_text place)) × (line ≡ line_at bytes place)
Refuses bytes read (Unbalanced place line) = (read ≡ Err (unbalanced place)) × (line ≡ line_at bytes place)
