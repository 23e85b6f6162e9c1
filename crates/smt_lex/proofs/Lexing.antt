-- The tokens of a text, taken off one after the other.
use Rattle.std.proofs.Common.{◌≡◌, ℕ, zero, suc, ◌+◌, ◌-◌, ◌<◌, ◌≤◌, List, [], ◌∷◌, length, get_or, take, drop, ap, sym, ◌∙◌, arith}
use Rattle.std.proofs.lemmas.List.{drop_more, drop_all, drop-drop, length-drop}
use Rattle.smt_lex.specs.declared.items.Item.{Item}
use Rattle.smt_lex.specs.declared.items.Item.TheVariants.{Left, Right, Numeral, Decimal, Hex, Bin, Text, Word, Quoted, Keyword}
use Rattle.smt_lex.specs.declared.fronts.Front.{Front}
use Rattle.smt_lex.specs.declared.fronts.Front.TheVariants.{Gap, Lexeme, BadByte, BadToken, OpenText}
use Rattle.smt_lex.specs.Lex.{ended, faulty, next, bad_byte, bad_token, open_text, front, front_length, lexed, lex_from, lex_at}
use Rattle.smt_lex.specs.Building.{FitsIn, token}

-- the bytes that belong to what was taken off
pub lex_skip : (n place : ℕ) (bs : List ℕ) → n ≤ length bs → lex_from place n bs ≡ lex_from (place + n) 0 (drop n bs)
lex_skip zero place bs within = ap (λ p. lex_from p 0 bs) (omega arith)
lex_skip (suc n) place [] within = absurd (omega arith)
lex_skip (suc n) place (b ∷ bs) within =
    let p : suc place + n ≡ place + suc n = omega arith in
    lex_skip n (suc place) bs (omega arith) ∙ ap (λ p. lex_from p 0 (drop n bs)) p

module _ (bytes : List ℕ) (place : ℕ) (more : place < length bytes) where
  -- what the text begins with here, and the tokens behind it
  lex_front : (f : Front) → front (drop place bytes) ≡ f → lex_at bytes place ≡ lexed f place (drop place bytes) (lex_from (suc place) (front_length f - 1) (drop (place + 1) bytes))
  lex_front f is =
      let split = drop_more bytes place 0 more in
      let b = get_or bytes place 0 in
      let bs = drop (place + 1) bytes in
      let here : front (b ∷ bs) ≡ f = sym (ap front split) ∙ is in
      ap (lex_from place 0) split
      ∙ ap (λ g. lexed g place (b ∷ bs) (lex_from (suc place) (front_length g - 1) bs)) here
      ∙ ap (λ xs. lexed f place xs (lex_from (suc place) (front_length f - 1) bs)) (sym split)

  behind : (n : ℕ) → 0 < n → place + n ≤ length bytes → lex_from (suc place) (n - 1) (drop (place + 1) bytes) ≡ lex_at bytes (place + n)
  behind n some within =
      let p : suc place + (n - 1) ≡ place + n = omega arith in
      let q : place + 1 + (n - 1) ≡ place + n = omega arith in
      lex_skip (n - 1) (suc place) (drop (place + 1) bytes) (omega (arith, length-drop (place + 1) bytes))
      ∙ ap (λ p. lex_from p 0 (drop (n - 1) (drop (place + 1) bytes))) p
      ∙ ap (lex_from (place + n) 0) (drop-drop (n - 1) (place + 1) bytes ∙ ap (λ q. drop q bytes) q)

  pub lex_gap : (n : ℕ) → front (drop place bytes) ≡ Gap n → 0 < n → place + n ≤ length bytes → lex_at bytes place ≡ lex_at bytes (place + n)
  lex_gap n is some within = lex_front (Gap n) is ∙ behind n some within

  pub lex_lexeme : (item : Item) (n : ℕ) → front (drop place bytes) ≡ Lexeme item n → 0 < n → place + n ≤ length bytes → lex_at bytes place ≡ next (token bytes item place (place + n)) (lex_at bytes (place + n))
  lex_lexeme item n is some within =
      let size : n ≡ place + n - place = omega arith in
      lex_front (Lexeme item n) is
      ∙ ap (next (record { item = item; start = place; text = take n (drop place bytes) })) (behind n some within)
      ∙ ap (λ m. next (record { item = item; start = place; text = take m (drop place bytes) }) (lex_at bytes (place + n))) size

  pub lex_bad_byte : (n : ℕ) → front (drop place bytes) ≡ BadByte n → lex_at bytes place ≡ faulty (bad_byte (place + n))
  lex_bad_byte n is = lex_front (BadByte n) is

  pub lex_bad_token : front (drop place bytes) ≡ BadToken → lex_at bytes place ≡ faulty (bad_token place)
  lex_bad_token is = lex_front BadToken is

  pub lex_open_text : front (drop place bytes) ≡ OpenText → lex_at bytes place ≡ faulty (open_text place)
  lex_open_text is = lex_front OpenText is

-- nothing is left
pub lex_end : (bytes : List ℕ) → lex_at bytes (length bytes) ≡ ended (length bytes)
lex_end bytes = ap (lex_from (length bytes) 0) (drop_all (length bytes) bytes (omega arith))

-- a token has a byte, and a quoted symbol two
pub fits_lexeme : (item : Item) (length n : ℕ) → FitsIn length (Lexeme item n) → (0 < n) × (n ≤ length)
fits_lexeme Left length n fits = fits
fits_lexeme Right length n fits = fits
fits_lexeme Numeral length n fits = fits
fits_lexeme Decimal length n fits = fits
fits_lexeme Hex length n fits = fits
fits_lexeme Bin length n fits = fits
fits_lexeme Text length n fits = fits
fits_lexeme Word length n fits = fits
fits_lexeme Quoted length n fits = (omega arith, fits.1)
fits_lexeme Keyword length n fits = fits
