-- The length of a literal, met in a loop at one byte after the other.
use Rattle.std.proofs.Common.{◌≡◌, ℕ, ◌+◌, ◌<◌, ◌≤◌, true, false, eqb, Option, Some, None, List, [], ◌∷◌, length, get_or, drop, refl, ap, sym, ◌∙◌, arith}
use Rattle.std.proofs.lemmas.List.{drop_more, drop_all}
use Rattle.std.proofs.lemmas.Bool.{ne_eqb}
use Rattle.smt_lex.specs.Lexicon.{quote}
use Rattle.smt_lex.specs.Lex.{longer, literal_length}

longer-zero : (o : Option ℕ) → longer 0 o ≡ o
longer-zero None = refl
longer-zero (Some n) = ap Some (omega arith)

longer-longer : (a b : ℕ) (o : Option ℕ) → longer a (longer b o) ≡ longer (a + b) o
longer-longer a b None = refl
longer-longer a b (Some n) = ap Some (omega arith)

-- a byte that is no quote
other : (b : ℕ) (bs : List ℕ) → eqb b quote ≡ false → literal_length (b ∷ bs) ≡ longer 1 (literal_length bs)
other b bs differs = rw differs refl

-- two quotes
pair : (b c : ℕ) (bs : List ℕ) → eqb b quote ≡ true → eqb c quote ≡ true → literal_length (b ∷ c ∷ bs) ≡ longer 2 (literal_length bs)
pair b c bs same too = (rw same (rw too refl)) ∙ longer-longer 1 1 (literal_length bs)

-- a quote at the end, and one before another byte
last : (b : ℕ) → eqb b quote ≡ true → literal_length (b ∷ []) ≡ Some 1
last b same = rw same refl

closing : (b c : ℕ) (bs : List ℕ) → eqb b quote ≡ true → eqb c quote ≡ false → literal_length (b ∷ c ∷ bs) ≡ Some 1
closing b c bs same differs = rw same (rw differs refl)

-- the loop: so many bytes were passed
pub record Passed (text : List ℕ) (at : ℕ) : Type 0 where
  pub within : at ≤ length text
  pub left : literal_length text ≡ longer at (literal_length (drop at text))

pub passed_none : (text : List ℕ) → Passed text 0
passed_none text = record { within = omega arith; left = sym (longer-zero (literal_length text)) }

module _ (text : List ℕ) (at : ℕ) (so_far : Passed text at) (more : at < length text) where
  split : drop at text ≡ get_or text at 0 ∷ drop (at + 1) text
  split = drop_more text at 0 more

  pub passed_other : (get_or text at 0 ≡ quote → ⊥) → Passed text (at + 1)
  passed_other differs = record {
    within = omega arith;
    left = so_far.left ∙ ap (λ bs. longer at (literal_length bs)) split ∙ ap (longer at) (other _ _ (ne_eqb _ _ differs)) ∙ longer-longer at 1 _;
  }

  module _ (quoted : eqb (get_or text at 0) quote ≡ true) where
    pub passed_pair : (at + 1 < length text) → eqb (get_or text (at + 1) 0) quote ≡ true → Passed text (at + 2)
    passed_pair two too =
        let next = drop_more text (at + 1) 0 two in
        let place : at + 1 + 1 ≡ at + 2 = omega arith in
        record {
          within = omega arith;
          left = so_far.left ∙ ap (λ bs. longer at (literal_length bs)) (split ∙ ap (λ bs. get_or text at 0 ∷ bs) next)
              ∙ ap (longer at) (pair _ _ _ quoted too) ∙ longer-longer at 2 _ ∙ ap (λ n. longer (at + 2) (literal_length (drop n text))) place;
        }

    pub passed_last : length text ≤ at + 1 → literal_length text ≡ Some (at + 1)
    passed_last end = so_far.left ∙ ap (λ bs. longer at (literal_length bs)) (split ∙ ap (λ bs. get_or text at 0 ∷ bs) (drop_all (at + 1) text end)) ∙ ap (longer at) (last _ quoted)

    pub passed_closing : (at + 1 < length text) → (get_or text (at + 1) 0 ≡ quote → ⊥) → literal_length text ≡ Some (at + 1)
    passed_closing two differs =
        let next = drop_more text (at + 1) 0 two in
        so_far.left ∙ ap (λ bs. longer at (literal_length bs)) (split ∙ ap (λ bs. get_or text at 0 ∷ bs) next) ∙ ap (longer at) (closing _ _ _ quoted (ne_eqb _ _ differs))

-- all bytes were passed
pub passed_all : (text : List ℕ) (at : ℕ) → Passed text at → length text ≤ at → literal_length text ≡ None
passed_all text at so_far end = so_far.left ∙ ap (λ bs. longer at (literal_length bs)) (drop_all at text end)
