-- A head gives the same value to operands that are the same.
use Rattle.std.proofs.Common.{◌≡◌, ℕ, zero, suc, Bool, true, ℤ, List, [], ◌∷◌, replicate, refl, ap, sym, ◌∙◌, subst}
use Rattle.std.specs.Cmp.{booleans_Decides}
use Rattle.std.proofs.lemmas.Bool.Decides.{Decides-int_eq}
use Rattle.smt_terms.specs.Sorts.{Sort, bool, int, bit_vector}
use Rattle.smt_terms.specs.BitVectors.{BitVector}
use Rattle.smt_terms.specs.Values.{Value, Sizes, is_true, number, bits_of, same, all_same}
use Rattle.smt_terms.specs.Operators.{first_value, second_value, third_value, logical}
use Rattle.smt_terms.proofs.Tests.{both_true}
use Rattle.smt_terms.proofs.Same.{Decides-bits_eq, same-itself}

-- ---- equal values are the same

pub equal_same : (s : Sort) (sizes : Sizes) {a b : Value} → a ≡ b → same s sizes a b ≡ true
equal_same s sizes {a = a} e = subst (λ c. same s sizes a c ≡ true) e (same-itself s sizes a)

-- ---- operands by their places

pub first_same : (s : Sort) (ss : List Sort) (sizes : Sizes) (vs ws : List Value) → all_same (s ∷ ss) sizes vs ws ≡ true → same s sizes (first_value vs) (first_value ws) ≡ true
first_same s ss sizes [] [] h = absurd cc
first_same s ss sizes [] (w ∷ ws) h = absurd cc
first_same s ss sizes (v ∷ vs) [] h = absurd cc
first_same s ss sizes (v ∷ vs) (w ∷ ws) h = (both_true (same s sizes v w) (all_same ss sizes vs ws) h).0

pub second_same : (r s : Sort) (ss : List Sort) (sizes : Sizes) (vs ws : List Value) → all_same (r ∷ s ∷ ss) sizes vs ws ≡ true → same s sizes (second_value vs) (second_value ws) ≡ true
second_same r s ss sizes [] [] h = absurd cc
second_same r s ss sizes [] (w ∷ ws) h = absurd cc
second_same r s ss sizes (v ∷ vs) [] h = absurd cc
second_same r s ss sizes (v ∷ vs) (w ∷ ws) h = first_same s ss sizes vs ws (both_true (same r sizes v w) (all_same (s ∷ ss) sizes vs ws) h).1

pub third_same : (q r s : Sort) (ss : List Sort) (sizes : Sizes) (vs ws : List Value) → all_same (q ∷ r ∷ s ∷ ss) sizes vs ws ≡ true → same s sizes (third_value vs) (third_value ws) ≡ true
third_same q r s ss sizes [] [] h = absurd cc
third_same q r s ss sizes [] (w ∷ ws) h = absurd cc
third_same q r s ss sizes (v ∷ vs) [] h = absurd cc
third_same q r s ss sizes (v ∷ vs) (w ∷ ws) h = second_same r s ss sizes vs ws (both_true (same q sizes v w) (all_same (r ∷ s ∷ ss) sizes vs ws) h).1

-- ---- what scalars read as

pub truths_alike : (sizes : Sizes) (v w : Value) → same bool sizes v w ≡ true → is_true v ≡ is_true w
truths_alike sizes v w h = (booleans_Decides (is_true v) (is_true w)).0 h

pub numbers_alike : (sizes : Sizes) (v w : Value) → same int sizes v w ≡ true → number v ≡ number w
numbers_alike sizes v w h = (Decides-int_eq (number v) (number w)).0 h

pub bits_alike : (n : ℕ) (sizes : Sizes) (v w : Value) → same (bit_vector n) sizes v w ≡ true → bits_of v ≡ bits_of w
bits_alike n sizes v w h = (Decides-bits_eq (bits_of v) (bits_of w)).0 h

-- ---- operands of one kind

module _ (sizes : Sizes) (ss : List Sort) (vs ws : List Value) (h : all_same ss sizes vs ws ≡ true) where
  pub at_sorts : (us : List Sort) → ss ≡ us → all_same us sizes vs ws ≡ true
  at_sorts us e = subst (λ rs. all_same rs sizes vs ws ≡ true) e h

  pub first_truth : (rest : List Sort) → ss ≡ bool ∷ rest → is_true (first_value vs) ≡ is_true (first_value ws)
  first_truth rest e = truths_alike sizes (first_value vs) (first_value ws) (first_same bool rest sizes vs ws (at_sorts (bool ∷ rest) e))

  pub logical_alike : (f : Bool → Bool → Bool) → ss ≡ bool ∷ bool ∷ [] → logical f vs ≡ logical f ws
  logical_alike f e =
      let first : is_true (first_value vs) ≡ is_true (first_value ws) = first_truth (bool ∷ []) e in
      let second : is_true (second_value vs) ≡ is_true (second_value ws) = truths_alike sizes (second_value vs) (second_value ws) (second_same bool bool [] sizes vs ws (at_sorts (bool ∷ bool ∷ []) e)) in
      cc

  first_number : (rest : List Sort) → ss ≡ int ∷ rest → number (first_value vs) ≡ number (first_value ws)
  first_number rest e = numbers_alike sizes (first_value vs) (first_value ws) (first_same int rest sizes vs ws (at_sorts (int ∷ rest) e))

  second_number : ss ≡ int ∷ int ∷ [] → number (second_value vs) ≡ number (second_value ws)
  second_number e = numbers_alike sizes (second_value vs) (second_value ws) (second_same int int [] sizes vs ws (at_sorts (int ∷ int ∷ []) e))

  first_bits : (n : ℕ) (rest : List Sort) → ss ≡ bit_vector n ∷ rest → bits_of (first_value vs) ≡ bits_of (first_value ws)
  first_bits n rest e = bits_alike n sizes (first_value vs) (first_value ws) (first_same (bit_vector n) rest sizes vs ws (at_sorts (bit_vector n ∷ rest) e))

  second_bits : (m n : ℕ) → ss ≡ bit_vector m ∷ bit_vector n ∷ [] → bits_of (second_value vs) ≡ bits_of (second_value ws)
  second_bits m n e = bits_alike n sizes (second_value vs) (second_value ws) (second_same (bit_vector m) (bit_vector n) [] sizes vs ws (at_sorts (bit_vector m ∷ bit_vector n ∷ []) e))

  pub of_truth : {B : Type 0} (f : Bool → B) → ss ≡ bool ∷ [] → f (is_true (first_value vs)) ≡ f (is_true (first_value ws))
  of_truth f e = ap f (first_truth [] e)

  pub of_number : {B : Type 0} (f : ℤ → B) → ss ≡ int ∷ [] → f (number (first_value vs)) ≡ f (number (first_value ws))
  of_number f e = ap f (first_number [] e)

  pub of_numbers : {B : Type 0} (f : ℤ → ℤ → B) → ss ≡ int ∷ int ∷ [] → f (number (first_value vs)) (number (second_value vs)) ≡ f (number (first_value ws)) (number (second_value ws))
  of_numbers f e = λ i. f (first_number (int ∷ []) e i) (second_number e i)

  pub of_bits : {B : Type 0} (f : BitVector → B) (n : ℕ) → ss ≡ bit_vector n ∷ [] → f (bits_of (first_value vs)) ≡ f (bits_of (first_value ws))
  of_bits f n e = ap f (first_bits n [] e)

  pub of_two_bits : {B : Type 0} (f : BitVector → BitVector → B) (m n : ℕ) → ss ≡ bit_vector m ∷ bit_vector n ∷ [] → f (bits_of (first_value vs)) (bits_of (second_value vs)) ≡ f (bits_of (first_value ws)) (bits_of (second_value ws))
  of_two_bits f m n e = λ i. f (first_bits m (bit_vector n ∷ []) e i) (second_bits m n e i)

-- ---- operators over all their operands

pub totals_alike : {B : Type 0} (s : Sort) (sizes : Sizes) (read : Value → B) (join : B → B → B) (total : List Value → B) → ((v : Value) (vs : List Value) → total (v ∷ vs) ≡ join (read v) (total vs)) → ((v w : Value) → same s sizes v w ≡ true → read v ≡ read w) → (k : ℕ) (vs ws : List Value) → all_same (replicate k s) sizes vs ws ≡ true → total vs ≡ total ws
totals_alike s sizes read join total step reads zero [] [] h = refl
totals_alike s sizes read join total step reads zero [] (w ∷ ws) h = absurd cc
totals_alike s sizes read join total step reads zero (v ∷ vs) ws h = absurd cc
totals_alike s sizes read join total step reads (suc k) [] [] h = absurd cc
totals_alike s sizes read join total step reads (suc k) [] (w ∷ ws) h = absurd cc
totals_alike s sizes read join total step reads (suc k) (v ∷ vs) [] h = absurd cc
totals_alike s sizes read join total step reads (suc k) (v ∷ vs) (w ∷ ws) h =
    let parts = both_true (same s sizes v w) (all_same (replicate k s) sizes vs ws) h in
    step v vs ∙ (λ i. join (reads v w parts.0 i) (totals_alike s sizes read join total step reads k vs ws parts.1 i)) ∙ sym (step w ws)
