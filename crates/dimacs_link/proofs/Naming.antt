-- The constants that items name with a sign.
use Rattle.std.proofs.Common.{◌≡◌, ◌∙◌, sym, ap, refl, ℕ, zero, suc, ◌+◌, ◌<◌, Bool, true, false, not, ◌&&◌, ◌||◌, ◌==◌, List, [], ◌∷◌, length, Some, arith}
use Rattle.std.proofs.Math.ListN.{set, replicate}
use Rattle.std.proofs.lemmas.Bool.{ne_eqb}
use Rattle.std.specs.Bool.{beq}
use Rattle.std.specs.List.{list_any, slice_get}
use Rattle.dimacs_link.specs.declared.items.Item.{Item}
use Rattle.dimacs_link.specs.declared.items.Item.TheVariants.{Number}
use Rattle.dimacs_link.specs.declared.literals.Literal.{Literal}
use Rattle.dimacs_link.specs.AnswerTexts.{is_literal, named_from}

pub none_named : (b : Bool) (i n : ℕ) → replicate n false ≡ named_from b [] i n
none_named b i zero = refl
none_named b i (suc n) = ap (λ vs. false ∷ vs) (none_named b (suc i) n)

pub length-named : (b : Bool) (is : List Item) (i n : ℕ) → length (named_from b is i n) ≡ n
length-named b is i zero = refl
length-named b is i (suc n) = ap suc (length-named b is (suc i) n)

same_sign : (b : Bool) → beq b b ≡ true
same_sign true = refl
same_sign false = refl

other_sign : (b : Bool) → beq b (not b) ≡ false
other_sign true = refl
other_sign false = refl

and_false : (b : Bool) → (b && false) ≡ false
and_false true = refl
and_false false = refl

same_number : (n : ℕ) → (n == n) ≡ true
same_number n = search arith

module _ (before : List Item) (l : Literal) where
  -- constants with other numbers stay
  above : (b : Bool) (i n : ℕ) → l.constant < i → named_from b before i n ≡ named_from b (Number l ∷ before) i n
  above b i zero below = refl
  above b i (suc n) below =
      let other : (l.constant == i) ≡ false = ne_eqb l.constant i (λ e. omega arith) in
      ap (λ t. (t || list_any (is_literal b i) before) ∷ named_from b before (suc i) n) (sym (ap (λ t. beq l.positive b && t) other ∙ and_false (beq l.positive b)))
      ∙ ap (λ vs. list_any (is_literal b i) (Number l ∷ before) ∷ vs) (above b (suc i) n (omega arith))

  pub names : (b : Bool) (i n k : ℕ) → l.positive ≡ b → l.constant ≡ i + k → k < n → set (named_from b before i n) k true ≡ named_from b (Number l ∷ before) i n
  names b i zero k sign number within = absurd (omega arith)
  names b i (suc n) zero sign number within =
      let here : l.constant ≡ i = omega arith in
      ap (λ t. t ∷ named_from b before (suc i) n) (sym (ap (λ t. t || list_any (is_literal b i) before) (ap (λ s. beq s b && (l.constant == i)) sign ∙ ap (λ t. t && (l.constant == i)) (same_sign b) ∙ ap (λ m. m == i) here ∙ same_number i)))
      ∙ ap (λ vs. list_any (is_literal b i) (Number l ∷ before) ∷ vs) (above b (suc i) n (omega arith))
  names b i (suc n) (suc k) sign number within =
      let other : (l.constant == i) ≡ false = ne_eqb l.constant i (λ e. omega arith) in
      ap (λ t. (t || list_any (is_literal b i) before) ∷ set (named_from b before (suc i) n) k true) (sym (ap (λ t. beq l.positive b && t) other ∙ and_false (beq l.positive b)))
      ∙ ap (λ vs. list_any (is_literal b i) (Number l ∷ before) ∷ vs) (names b (suc i) n k sign (omega arith) (omega arith))

  -- and so do those with the other sign
  pub others : (b : Bool) (i n : ℕ) → l.positive ≡ b → named_from (not b) before i n ≡ named_from (not b) (Number l ∷ before) i n
  others b i zero sign = refl
  others b i (suc n) sign =
      ap (λ t. (t || list_any (is_literal (not b) i) before) ∷ named_from (not b) before (suc i) n)
      (sym (ap (λ s. beq s (not b) && (l.constant == i)) sign ∙ ap (λ t. t && (l.constant == i)) (other_sign b)))
      ∙ ap (λ vs. list_any (is_literal (not b) i) (Number l ∷ before) ∷ vs) (others b (suc i) n sign)

-- whether a constant is named
pub told : (before : List Item) (b : Bool) (i n k : ℕ) (r : Bool) → slice_get (named_from b before i n) k ≡ Some r → list_any (is_literal b (i + k)) before ≡ r
told before b i zero k r e = absurd cc
told before b i (suc n) zero r e =
    let on : i + 0 ≡ i = omega arith in
    let there : list_any (is_literal b i) before ≡ r = cc in
    ap (λ m. list_any (is_literal b m) before) on ∙ there
told before b i (suc n) (suc k) r e =
    let on : i + suc k ≡ suc i + k = omega arith in
    ap (λ m. list_any (is_literal b m) before) on ∙ told before b (suc i) n k r e
