-- Texts that are put together from tokens are read as these tokens.
use Rattle.std.proofs.Common.{◌≡◌, ℕ, suc, ◌+◌, ◌-◌, ◌<◌, ◌≤◌, Bool, true, false, Some, List, [], ◌∷◌, ◌++◌, length, take, refl, ap, ◌∙◌, arith, append_assoc, length-append}
use Rattle.std.specs.Prelude.{◌||◌, ◌==◌}
use Rattle.std.specs.List.{list_all}
use Rattle.std.proofs.lemmas.List.{take_at, drop_at}
use Rattle.smt_lex.specs.declared.items.Item.{Item}
use Rattle.smt_lex.specs.declared.items.Item.TheVariants.{Left, Right, Word, Quoted}
use Rattle.smt_lex.specs.declared.fronts.Front.TheVariants.{Lexeme}
use Rattle.smt_lex.specs.Lexicon.{left_parenthesis, right_parenthesis, bar, space, line_feed, quote, is_run_byte, is_word, starts_as, run_item}
use Rattle.smt_lex.specs.Names.{Name, IsName}
use Rattle.smt_lex.specs.Lex.{Token, Lexed, ended, next, front, front_length, lexed, lex_from}
use Rattle.smt_lex.proofs.Lexing.{lex_skip}
use Rattle.smt_lex.proofs.Printing.{front_of_run, front_word, front_quoted}

-- what ends a token
abbrev pub Stops : List ℕ → Type 0
Stops rest = starts_as (λ b. is_run_byte b || b == quote) rest ≡ false

-- the bytes are one token, wherever something stands behind them that ends it
pub record IsLexeme (item : Item) (text : List ℕ) : Type 0 where
  pub some : 0 < length text
  pub front : (rest : List ℕ) → Stops rest → front (text ++ rest) ≡ Lexeme item (length text)

stops_run : (rest : List ℕ) → Stops rest → starts_as is_run_byte rest ≡ false
stops_run [] stops = refl
stops_run (b ∷ rest) stops = first (is_run_byte b) (b == quote) stops
  where
    first : (p q : Bool) → (p || q) ≡ false → p ≡ false
    first true q h = h
    first false q h = refl

pub left_lexeme : IsLexeme Left (left_parenthesis ∷ [])
left_lexeme = record { some = omega arith; front = λ rest stops. refl }

pub right_lexeme : IsLexeme Right (right_parenthesis ∷ [])
right_lexeme = record { some = omega arith; front = λ rest stops. refl }

pub word_lexeme : (word : List ℕ) → 0 < length word → is_word word ≡ true → IsLexeme Word word
word_lexeme word some is = record { some = some; front = λ rest stops. front_word word rest is (stops_run rest stops) }

-- numerals, decimals, hexadecimal and binary numbers, keywords and words
pub run_lexeme : (run : List ℕ) (item : Item) → 0 < length run → list_all is_run_byte run ≡ true → run_item run ≡ Some item → IsLexeme item run
run_lexeme run item some all is = record { some = some; front = λ rest stops. front_of_run run rest item some all (stops_run rest stops) is }

pub quoted_lexeme : (name : Name) → IsName name → IsLexeme Quoted (bar ∷ (name ++ bar ∷ []))
quoted_lexeme name is = record {
  some = omega arith;
  front = λ rest stops.
      let size : length name + 2 ≡ length (bar ∷ (name ++ bar ∷ [])) = omega (arith, length-append name (bar ∷ [])) in
      ap (λ bs. front (bar ∷ bs)) (append_assoc name (bar ∷ []) rest) ∙ front_quoted name rest is ∙ ap (Lexeme Quoted) size;
}

-- a token before other bytes
pub lex_lexeme_before : (item : Item) (text rest : List ℕ) (place : ℕ) → IsLexeme item text → Stops rest
    → lex_from place 0 (text ++ rest) ≡ next (record { item = item; start = place; text = text }) (lex_from (place + length text) 0 rest)
lex_lexeme_before item [] rest place is stops = absurd (let h = is.some in omega (arith, h))
lex_lexeme_before item (b ∷ bs) rest place is stops =
    let text = b ∷ bs in
    let begins = is.front rest stops in
    let one : length text - 1 ≡ length bs = omega arith in
    let there : suc place + length bs ≡ place + length text = omega arith in
    let inside : length bs ≤ length (bs ++ rest) = omega (arith, length-append bs rest) in
    ap (λ f. lexed f place (text ++ rest) (lex_from (suc place) (front_length f - 1) (bs ++ rest))) begins
    ∙ ap (λ n. next (record { item = item; start = place; text = take (length text) (text ++ rest) }) (lex_from (suc place) n (bs ++ rest))) one
    ∙ ap (λ xs. next (record { item = item; start = place; text = xs }) (lex_from (suc place) (length bs) (bs ++ rest))) (take_at text rest (length text) refl)
    ∙ ap (next (record { item = item; start = place; text = text }))
    (lex_skip (length bs) (suc place) (bs ++ rest) inside
    ∙ ap (λ xs. lex_from (suc place + length bs) 0 xs) (drop_at bs rest (length bs) refl)
    ∙ ap (λ p. lex_from p 0 rest) there)

-- a space and a line's end before other bytes
pub lex_space_before : (rest : List ℕ) (place : ℕ) → lex_from place 0 (space ∷ rest) ≡ lex_from (suc place) 0 rest
lex_space_before rest place = refl

pub lex_line_before : (rest : List ℕ) (place : ℕ) → lex_from place 0 (line_feed ∷ rest) ≡ lex_from (suc place) 0 rest
lex_line_before rest place = refl

-- tokens with one space behind each, and where they then stand
abbrev pub spaced : List Token → List ℕ
spaced [] = []
spaced (t ∷ ts) = t.text ++ (space ∷ spaced ts)

abbrev pub placed : ℕ → List Token → Lexed
placed place [] = ended place
placed place (t ∷ ts) = next (record { item = t.item; start = place; text = t.text }) (placed (suc (place + length t.text)) ts)

abbrev pub AreLexemes : List Token → Type 0
AreLexemes [] = Unit {0}
AreLexemes (t ∷ ts) = IsLexeme t.item t.text × AreLexemes ts

-- they are read again
pub lex_spaced : (ts : List Token) (place : ℕ) → AreLexemes ts → lex_from place 0 (spaced ts) ≡ placed place ts
lex_spaced [] place are = refl
lex_spaced (t ∷ ts) place are =
    lex_lexeme_before t.item t.text (space ∷ spaced ts) place are.0 refl
    ∙ ap (next (record { item = t.item; start = place; text = t.text })) (lex_spaced ts (suc (place + length t.text)) are.1)
