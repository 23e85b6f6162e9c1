-- A test of all values of a finite sort passes where each value passes it.
use Rattle.std.proofs.Common.{◌≡◌, ℕ, zero, suc, ◌<◌, Bool, true, false, ◌==◌, nat_lt, [], ◌∷◌, length, refl, ap, sym, subst, inl, inr, arith}
use Rattle.std.proofs.lemmas.Bool.Decides.{Decides-eqb, Decides-ltb, not_from_Decides}
use Rattle.std.proofs.lemmas.Bool.{ltb-true}
use Rattle.smt_terms.specs.Sorts.{Sort, bool, int, bit_vector, array, free_sort}
use Rattle.smt_terms.specs.Term.{universal}
use Rattle.smt_terms.specs.BitVectors.{BitVector}
use Rattle.smt_terms.specs.Values.{Value, truth, bits, element, Sizes, over_bits, over_elements, over_values, is_value}
use Rattle.smt_terms.proofs.Tests.{both_true, one_false, true_or_false}

over_bits_all : (w : ℕ) (test : BitVector → Bool) (bs : BitVector) → over_bits universal w test ≡ true → length bs ≡ w → test bs ≡ true
unfolding over_bits
over_bits_all zero test [] h e = h
over_bits_all zero test (b ∷ bs) h e = absurd cc
over_bits_all (suc w) test [] h e = absurd cc
over_bits_all (suc w) test (false ∷ bs) h e =
    let parts = both_true (over_bits universal w (λ bs. test (false ∷ bs))) (over_bits universal w (λ bs. test (true ∷ bs))) h in
    over_bits_all w (λ bs. test (false ∷ bs)) bs parts.0 cc
over_bits_all (suc w) test (true ∷ bs) h e =
    let parts = both_true (over_bits universal w (λ bs. test (false ∷ bs))) (over_bits universal w (λ bs. test (true ∷ bs))) h in
    over_bits_all w (λ bs. test (true ∷ bs)) bs parts.1 cc

behind_bit : (b : Bool) (w : ℕ) (test : BitVector → Bool) → ((bs : BitVector) × (length bs ≡ w) × (test (b ∷ bs) ≡ false)) → (bs : BitVector) × (length bs ≡ suc w) × (test bs ≡ false)
behind_bit b w test found = (b ∷ found.0, ap suc found.1, found.2)

-- bits of this width that fail
over_bits_some : (w : ℕ) (test : BitVector → Bool) → over_bits universal w test ≡ false → (bs : BitVector) × (length bs ≡ w) × (test bs ≡ false)
unfolding over_bits
over_bits_some zero test h = ([], refl, h)
over_bits_some (suc w) test h =
    elim (one_false (over_bits universal w (λ bs. test (false ∷ bs))) (over_bits universal w (λ bs. test (true ∷ bs))) h) [
      | inl low ↦ behind_bit false w test (over_bits_some w (λ bs. test (false ∷ bs)) low)
      | inr high ↦ behind_bit true w test (over_bits_some w (λ bs. test (true ∷ bs)) high)
    ]

over_elements_all : (n : ℕ) (test : ℕ → Bool) (i : ℕ) → over_elements universal n test ≡ true → i < n → test i ≡ true
unfolding over_elements
over_elements_all zero test i h less = absurd (omega arith)
over_elements_all (suc n) test i h less =
    let parts = both_true (over_elements universal n test) (test n) h in
    elim (true_or_false (i == n)) [
      | inl last ↦ subst (λ j. test j ≡ true) (sym ((Decides-eqb i n).0 last)) parts.1
      | inr other ↦ let apart : i ≡ n → ⊥ = not_from_Decides (i == n) (Decides-eqb i n) other in over_elements_all n test i parts.0 (omega arith)
    ]

over_elements_some : (n : ℕ) (test : ℕ → Bool) → over_elements universal n test ≡ false → (i : ℕ) × (i < n) × (test i ≡ false)
unfolding over_elements
over_elements_some zero test h = absurd cc
over_elements_some (suc n) test h =
    elim (one_false (over_elements universal n test) (test n) h) [
      | inl earlier ↦ let found = over_elements_some n test earlier in let less : found.0 < suc n = omega (arith, found.1) in (found.0, less, found.2)
      | inr last ↦ let less : n < suc n = omega arith in (n, less, last)
    ]

pub over_all : (s : Sort) (sizes : Sizes) (test : Value → Bool) (v : Value) → over_values universal s sizes test ≡ true → is_value s sizes v ≡ true → test v ≡ true
over_all bool sizes test (truth true) h valid = (both_true (test (truth false)) (test (truth true)) h).1
over_all bool sizes test (truth false) h valid = (both_true (test (truth false)) (test (truth true)) h).0
over_all (bit_vector w) sizes test (bits bs) h valid = over_bits_all w (λ bs. test (bits bs)) bs h ((Decides-eqb (length bs) w).0 valid)
over_all (free_sort s) sizes test (element i) h valid = over_elements_all (sizes s) (λ i. test (element i)) i h (ltb-true i (sizes s) valid)
over_all int sizes test v h valid = absurd cc
over_all (array i e) sizes test v h valid = absurd cc
over_all _ sizes test _ h valid = absurd cc

abbrev pub is_finite : Sort → Bool
is_finite bool = true
is_finite (bit_vector _) = true
is_finite (free_sort _) = true
is_finite _ = false

-- a test of the values of no finite sort fails as it stands
pub over_finite : (s : Sort) (sizes : Sizes) (test : Value → Bool) → over_values universal s sizes test ≡ true → is_finite s ≡ true
over_finite bool sizes test h = refl
over_finite (bit_vector w) sizes test h = refl
over_finite (free_sort s) sizes test h = refl
over_finite int sizes test h = absurd cc
over_finite (array i e) sizes test h = absurd cc

pub over_some : (s : Sort) (sizes : Sizes) (test : Value → Bool) → is_finite s ≡ true → over_values universal s sizes test ≡ false → (v : Value) × (is_value s sizes v ≡ true) × (test v ≡ false)
over_some bool sizes test f h =
    elim (one_false (test (truth false)) (test (truth true)) h) [
      | inl low ↦ (truth false, refl, low)
      | inr high ↦ (truth true, refl, high)
    ]
over_some (bit_vector w) sizes test f h =
    let found = over_bits_some w (λ bs. test (bits bs)) h in
    let wide : (length found.0 == w) ≡ true = (Decides-eqb (length found.0) w).1 found.1 in
    (bits found.0, wide, found.2)
over_some (free_sort s) sizes test f h =
    let found = over_elements_some (sizes s) (λ i. test (element i)) h in
    let below : nat_lt found.0 (sizes s) ≡ true = (Decides-ltb found.0 (sizes s)).1 found.1 in
    (element found.0, below, found.2)
over_some int sizes test f h = absurd cc
over_some (array i e) sizes test f h = absurd cc
