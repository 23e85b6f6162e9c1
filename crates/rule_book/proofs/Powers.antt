-- Bit vectors against a power of two: a product is a shift to the left, a quotient a shift to the right, and what is left the lowest bits.
use Rattle.std.proofs.Common.{◌≡◌, ◌∙◌, ℕ, zero, suc, ◌-◌, ◌*◌, ◌/◌, ◌%◌, ◌^◌, ◌<◌, ◌≤◌, Bool, true, false, cond, ◌&&◌, ◌==◌, length, min, Option, Some, None, refl, ap, sym, subst, arith}
use Rattle.std.specs.Prelude.{nat_le}
use Rattle.std.proofs.Math.Nat.{pow-suc, mul_comm}
use Rattle.std.proofs.Math.Pow.{pow-lt, ones_lt}
use Rattle.std.proofs.lemmas.Bool.{leb-true, false_from_ne_true}
use Rattle.std.proofs.lemmas.Bool.Decides.{Decides-eqb}
use Rattle.std.proofs.lemmas.Nat.{pow_pos, and_mask}
use Rattle.smt_terms.specs.declared.op.Op.{Op}
use Rattle.smt_terms.specs.declared.op.Op.TheVariants.{Bits}
use Rattle.smt_terms.specs.BitVectors.{BitVector, bv2nat, nat2bv, ones, bvand, bvmul, bvudiv, bvurem, distance, bvshl, bvlshr}
use Rattle.smt_terms.proofs.BitLaws.{at_width}
use Rattle.smt_terms.proofs.BitLengths.{length-nat2bv}
use Rattle.smt_terms.proofs.ConstantTerms.{bv2nat-nat2bv}
use Rattle.smt_terms.proofs.Tests.{both_true}
use Rattle.smt_values.proofs.Words.{nat2bv-and}
use Rattle.rule_book.specs.EightRules.{Power, exponent_below, power_at, literal_power, power}

-- ---- which constants are powers

-- the operator that is shown is the constant of a power
pub record IsPower (shown : Option Op) (p : Power) : Type 0 where
  pub constant : shown ≡ Some (Bits p.width (2 ^ p.exponent))
  pub some : 0 < p.exponent
  pub below : p.exponent < p.width

record IsExponent (bound n k : ℕ) : Type 0 where
  number : n ≡ 2 ^ k
  some : 0 < k
  below : k < bound

exponent : (bound n k : ℕ) → exponent_below bound n ≡ Some k → IsExponent bound n k
exponent zero n k h = absurd cc
exponent (suc j) n k h = go (nat_le 1 j && (2 ^ j == n)) refl h (exponent j n k)
  where
    go : (b : Bool) → (nat_le 1 j && (2 ^ j == n)) ≡ b → cond b (Some j) (exponent_below j n) ≡ Some k → (exponent_below j n ≡ Some k → IsExponent j n k) → IsExponent (suc j) n k
    go true e found further =
        let tests = both_true (nat_le 1 j) (2 ^ j == n) e in
        let place : j ≡ k = cc in
        let power : 2 ^ j ≡ n = (Decides-eqb (2 ^ j) n).0 tests.1 in
        let some : 1 ≤ j = leb-true 1 j tests.0 in
        record { number = sym power ∙ ap (λ i. 2 ^ i) place; some = omega arith; below = omega arith }
    go false e found further =
        let lower = further found in
        let less : k < j = lower.below in
        record { number = lower.number; some = lower.some; below = omega arith }

powered_at : (width n : ℕ) (k : Option ℕ) (p : Power) → exponent_below width n ≡ k → power_at width k ≡ Some p → IsPower (Some (Bits width n)) p
powered_at width n None p is h = absurd cc
powered_at width n (Some k) p is h =
    let known = exponent width n k is in
    let found : record { width = width; exponent = k } ≡ p = cc in
    subst (IsPower (Some (Bits width n))) found (record { constant = ap (λ m. Some (Bits width m)) known.number; some = known.some; below = known.below })

powered_literal : (o : Op) (p : Power) → literal_power o ≡ Some p → IsPower (Some o) p
unfolding literal_power
powered_literal (Bits width n) p h = powered_at width n (exponent_below width n) p refl h
powered_literal _ p h = absurd cc

pub powered : (shown : Option Op) (p : Power) → power shown ≡ Some p → IsPower shown p
powered None p h = absurd cc
powered (Some o) p h = powered_literal o p h

-- ---- numbers of so many bits

below_power : (k : ℕ) → k < 2 ^ k
below_power zero = omega arith
below_power (suc k) =
    let double : 2 ^ suc k ≡ 2 ^ k * 2 = pow-suc 2 k in
    let less : k < 2 ^ k = below_power k in
    omega arith

pub exponent_small : (w k : ℕ) → k < w → k < 2 ^ w
exponent_small w k below =
    let first : k < 2 ^ k = below_power k in
    let second : 2 ^ k < 2 ^ w = pow-lt below in
    omega arith

pub mask_small : (w k : ℕ) → k < w → 2 ^ k - 1 < 2 ^ w
mask_small w k below =
    let first : 2 ^ k - 1 < 2 ^ k = ones_lt k in
    let second : 2 ^ k < 2 ^ w = pow-lt below in
    omega arith

-- ---- the laws

-- an operator over a vector and the number of an exponent is another one over the vector and the power
abbrev pub Reduces : (BitVector → BitVector → BitVector) → (BitVector → BitVector → BitVector) → (ℕ → ℕ) → Type 0
Reduces f g number = (w k : ℕ) (s : BitVector) → length s ≡ w → k < w → f s (nat2bv w (number k)) ≡ g s (nat2bv w (2 ^ k))

module _ (w k : ℕ) (s : BitVector) (width : length s ≡ w) (below : k < w) where
  power_number : bv2nat (nat2bv w (2 ^ k)) ≡ 2 ^ k
  power_number = bv2nat-nat2bv w (2 ^ k) (pow-lt below)

  shift : distance s (nat2bv w k) ≡ k
  shift = (λ i. min (width i) (bv2nat-nat2bv w k (exponent_small w k below) i)) ∙ (omega arith)

  not_zero : (2 ^ k == 0) ≡ false
  not_zero =
      let some : 0 < 2 ^ k = pow_pos k in
      false_from_ne_true (2 ^ k == 0) (λ e. let none : 2 ^ k ≡ 0 = (Decides-eqb (2 ^ k) 0).0 e in omega arith)

  quotient : bvudiv s (nat2bv w (2 ^ k)) ≡ nat2bv (length s) (bv2nat s / 2 ^ k)
  quotient =
      ap (λ n. cond (n == 0) (ones (length s)) (nat2bv (length s) (bv2nat s / n))) power_number
      ∙ ap (λ b. cond b (ones (length s)) (nat2bv (length s) (bv2nat s / 2 ^ k))) not_zero

  remainder : bvurem s (nat2bv w (2 ^ k)) ≡ nat2bv (length s) (bv2nat s % 2 ^ k)
  remainder =
      ap (λ n. cond (n == 0) s (nat2bv (length s) (bv2nat s % n))) power_number
      ∙ ap (λ b. cond b s (nat2bv (length s) (bv2nat s % 2 ^ k))) not_zero

pub shl-mul : Reduces bvshl bvmul (λ k. k)
shl-mul w k s width below =
    ap (λ d. nat2bv (length s) (bv2nat s * 2 ^ d)) (shift w k s width below)
    ∙ ap (λ n. nat2bv (length s) (bv2nat s * n)) (sym (power_number w k s width below))

pub shl-mul_first : Reduces bvshl (λ s t. bvmul t s) (λ k. k)
shl-mul_first w k s width below =
    shl-mul w k s width below
    ∙ (λ i. nat2bv (width i) (mul_comm (bv2nat s) (bv2nat (nat2bv w (2 ^ k))) i))
    ∙ ap (λ v. nat2bv v (bv2nat (nat2bv w (2 ^ k)) * bv2nat s)) (sym (length-nat2bv w (2 ^ k)))

pub lshr-udiv : Reduces bvlshr bvudiv (λ k. k)
lshr-udiv w k s width below =
    ap (λ d. nat2bv (length s) (bv2nat s / 2 ^ d)) (shift w k s width below)
    ∙ sym (quotient w k s width below)

pub and-urem : Reduces bvand bvurem (λ k. 2 ^ k - 1)
and-urem w k s width below =
    ap (λ t. bvand t (nat2bv w (2 ^ k - 1))) (sym (at_width w s width))
    ∙ sym (nat2bv-and w (bv2nat s) (2 ^ k - 1))
    ∙ ap (nat2bv w) (and_mask (bv2nat s) k)
    ∙ ap (λ v. nat2bv v (bv2nat s % 2 ^ k)) (sym width)
    ∙ sym (remainder w k s width below)
