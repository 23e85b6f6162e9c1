-- A number with just one binary digit that is 1 is a power of two, and the exponent that the rules find of a number.
use Rattle.std.proofs.Common.{◌≡◌, ℕ, zero, suc, ◌+◌, ◌*◌, ◌/◌, ◌%◌, ◌^◌, ◌<◌, ◌≤◌, ◌≢◌, ◌⊎◌, Bool, true, false, cond, ◌&&◌, ◌==◌, nat_le, count_ones, Some, None, inl, inr, refl, ap, sym, ◌∙◌, arith}
use Rattle.std.proofs.lemmas.Nat.{zero_from_ones, ones-le, ones_cat, pow_pos}
use Rattle.std.proofs.lemmas.Bool.{le-leb}
use Rattle.std.proofs.lemmas.Bool.Decides.{Decides-eqb, nat_tests}
use Rattle.std.proofs.Math.Nat.{pow-suc}
use Rattle.std.proofs.Math.Pow.{pow-lt}
use Rattle.std.specs.Int.Count.{under, count_trailing_zeros}
use lib.Count.{ones_step}
use Rattle.smt_terms.proofs.Tests.{true_or_false, and_true}
use Rattle.rule_book.specs.EightRules.{exponent_below}

-- ---- one digit

pub ones-power : (k : ℕ) → count_ones (2 ^ k) ≡ 1
ones-power k =
    let cat = ones_cat k 1 0 (pow_pos k) in
    let one = ones_step 1 in
    let none = ones-le 0 0 (omega arith) in
    let same : 1 * 2 ^ k + 0 ≡ 2 ^ k = omega arith in
    omega (arith, ap count_ones same)

power-even : (n t : ℕ) → n % 2 ≡ 0 → n / 2 ≡ 2 ^ t → n ≡ 2 ^ under (n % 2) t
power-even n t even half = let double = pow-suc 2 t in omega (arith, ap (λ d. 2 ^ under d t) even)

power-odd : (n t : ℕ) → n % 2 ≡ 1 → n / 2 ≡ 0 → n ≡ 2 ^ under (n % 2) t
power-odd n t odd half = omega (arith, ap (λ d. 2 ^ under d t) odd)

-- among k digits
pub power-ones : (k n : ℕ) → n < 2 ^ k → count_ones n ≡ 1 → n ≡ 2 ^ count_trailing_zeros k n
unfolding count_trailing_zeros
power-ones zero n below one = let none = ones-le 0 n below in omega arith
power-ones (suc k) n below one =
    let step = ones_step n in
    let double = pow-suc 2 k in
    elim (true_or_false (n % 2 == 0)) [
      | inl even ↦
          let e : n % 2 ≡ 0 = (Decides-eqb (n % 2) 0).0 even in
          power-even n (count_trailing_zeros k (n / 2)) e (power-ones k (n / 2) (omega arith) (omega arith))
      | inr odd ↦
          let e : n % 2 ≡ 1 = grind (arith, nat_tests) in
          power-odd n (count_trailing_zeros k (n / 2)) e (zero_from_ones (n / 2) (omega arith))
    ]

-- ---- the exponent

not-power : (w k : ℕ) → (w < k) ⊎ (k < w) → (2 ^ w == 2 ^ k) ≡ false
not-power w k (inl less) = let grows = pow-lt less in grind (arith, nat_tests)
not-power w k (inr more) = let grows = pow-lt more in grind (arith, nat_tests)

passed : (w n : ℕ) → (nat_le 1 w && (2 ^ w == n)) ≡ false → exponent_below (suc w) n ≡ exponent_below w n
passed w n fails = ap (λ b. cond b (Some w) (exponent_below w n)) fails

no-both : (a b : Bool) → b ≡ false → (a && b) ≡ false
no-both true b fails = fails
no-both false b fails = refl

pub exponent-found : (w k : ℕ) → 1 ≤ k → k < w → exponent_below w (2 ^ k) ≡ Some k
exponent-found zero k from below = absurd (omega arith)
exponent-found (suc w) k from below = elim (true_or_false (w == k)) [
  | inl same ↦
      let e : w ≡ k = (Decides-eqb w k).0 same in
      ap (λ b. cond b (Some w) (exponent_below w (2 ^ k))) (and_true (nat_le 1 w) (2 ^ w == 2 ^ k) (le-leb 1 w (omega arith)) ((Decides-eqb (2 ^ w) (2 ^ k)).1 (ap (λ j. 2 ^ j) e)))
      ∙ ap (λ j. Some j) e
  | inr other ↦
      let less : k < w = grind (arith, nat_tests) in
      passed w (2 ^ k) (no-both (nat_le 1 w) (2 ^ w == 2 ^ k) (not-power w k (inr less))) ∙ exponent-found w k from less
]

pub exponent-outside : (w k : ℕ) → (k < 1) ⊎ (w ≤ k) → exponent_below w (2 ^ k) ≡ None
exponent-outside zero k out = refl
exponent-outside (suc w) k (inl none) = elim (true_or_false (nat_le 1 w)) [
  | inl some ↦
      let less : k < w = grind (arith, nat_tests) in
      passed w (2 ^ k) (no-both (nat_le 1 w) (2 ^ w == 2 ^ k) (not-power w k (inr less))) ∙ exponent-outside w k (inl none)
  | inr fails ↦ passed w (2 ^ k) (ap (λ b. b && (2 ^ w == 2 ^ k)) fails) ∙ exponent-outside w k (inl none)
]
exponent-outside (suc w) k (inr above) =
    passed w (2 ^ k) (no-both (nat_le 1 w) (2 ^ w == 2 ^ k) (not-power w k (inl (omega arith)))) ∙ exponent-outside w k (inr (omega arith))

pub exponent-none : (w n : ℕ) → count_ones n ≢ 1 → exponent_below w n ≡ None
exponent-none zero n other = refl
exponent-none (suc w) n other = elim (true_or_false (2 ^ w == n)) [
  | inl same ↦ absurd (other (ap count_ones (sym ((Decides-eqb (2 ^ w) n).0 same)) ∙ ones-power w))
  | inr fails ↦ passed w n (no-both (nat_le 1 w) (2 ^ w == n) fails) ∙ exponent-none w n other
]
