-- The parentheses of a text that was read match.
use Rattle.std.proofs.Common.{◌≡◌, ℕ, zero, suc, ◌==◌, Bool, true, false, ◌&&◌, ◌⊎◌, inl, inr, List, [], ◌∷◌, Result, Ok, Err, refl, ap, ◌∙◌}
use Rattle.smt_lex.specs.Lex.{Token, Fault, Lexed, ended, faulty, next, lex}
use Rattle.smt_lex.specs.Forms.{is_right, depth_after, with_token, balanced, to_exit}
use Rattle.smt_lex.specs.Forest.{Source, items, closes, IsBalanced}
use Rattle.script_terms.specs.Places.{IsRead}

tell : (b : Bool) → (b ≡ true) ⊎ (b ≡ false)
tell true = inl refl
tell false = inr refl

with_token_ok : (t : Token) (r : Result (List Token) Fault) (us : List Token) → with_token t r ≡ Ok us → (vs : List Token) × (r ≡ Ok vs) × (us ≡ t ∷ vs)
with_token_ok t (Ok vs) us h = (vs, refl, cc)
with_token_ok t (Err fault) us h = absurd (cc)

closes_next : (t : Token) (us : List Token) (depth : ℕ) → (is_right t.item && depth == 0) ≡ false → closes (depth_after t.item depth) (items us) ≡ true → closes depth (items (t ∷ us)) ≡ true
closes_next t us depth goes behind = rw goes behind

balanced_closes : (depth : ℕ) (ts : Lexed) (us : List Token) → balanced depth ts ≡ Ok us → closes depth (items us) ≡ true
balanced_closes zero (ended n) us h = let none : us ≡ [] = cc in ap (λ us. closes 0 (items us)) none
balanced_closes (suc depth) (ended n) us h = absurd (cc)
balanced_closes zero (faulty fault) us h = absurd (cc)
balanced_closes (suc depth) (faulty fault) us h = absurd (cc)
balanced_closes depth (next t ts) us h = elim (tell (is_right t.item && depth == 0)) [
  | inl over ↦ absurd (let e = rw over at h in cc)
  | inr goes ↦
      let behind = with_token_ok t (balanced (depth_after t.item depth) ts) us (rw goes at h) in
      ap (λ us. closes depth (items us)) behind.2 ∙ closes_next t behind.0 depth goes (balanced_closes (depth_after t.item depth) ts behind.0 behind.1)
]

pub read_balanced : (source : Source) → IsRead source → IsBalanced source.tokens
read_balanced source read = balanced_closes 0 (to_exit 0 (lex source.bytes)) source.tokens read
