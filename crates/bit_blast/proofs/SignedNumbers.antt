-- Numbers by sign and magnitude: division of such numbers, and the bit vectors that are these numbers in two's complement.
use Rattle.std.proofs.Common.{◌≡◌, ℕ, zero, suc, ◌+◌, ◌-◌, ◌*◌, ◌/◌, ◌%◌, ◌^◌, ◌<◌, Bool, true, false, cond, not, ◌&&◌, [], ◌∷◌, length, ℤ, pos, negsuc, neg_ℤ, ◌+ℤ◌, ◌-ℤ◌, unsigned_abs, int_lt, int_div, int_rem, int_eq, is_eq, Less, Greater, Equal, refl, ap, sym, ◌∙◌, inl, inr, arith, mod-lt, mod-eq_of_lt, div-add-mod'}
use Rattle.std.specs.Bool.{beq}
use Rattle.std.specs.Int.{int_rem_euclid}
use Rattle.std.proofs.lemmas.Bool.{lt-ltb, le-ltb, both_ways, cases_lt, false_from_ne_true}
use Rattle.std.proofs.lemmas.Int.{ints}
use Rattle.std.proofs.lemmas.Nat.{mod-mul-add}
use Rattle.smt_terms.specs.BitVectors.{BitVector, bv2nat, nat2bv, sign, bv2int, int2bv, bvneg, floor_mod}
use Rattle.smt_terms.proofs.BitLaws.{bv2nat-small, nat2bv-bv2nat, nat2bv-zero, nat2bv-power}
use Rattle.smt_terms.proofs.BitLengths.{length-bvneg}
use Rattle.smt_terms.proofs.ConstantTerms.{bv2nat-nat2bv}

abbrev pub signed : Bool → ℕ → ℤ
signed true m = neg_ℤ (pos m)
signed false m = pos m

-- the magnitude of a negative number is more than 0
abbrev pub IsMagnitude : Bool → ℕ → Type 0
IsMagnitude s m = s ≡ true → 0 < m

-- ---- division

pub int_div_is : (s t : Bool) (m n : ℕ) → IsMagnitude s m → IsMagnitude t n → int_div (signed s m) (signed t n) ≡ signed (not (beq s t)) (m / n)
int_div_is false false m n h k = refl
int_div_is false true m zero h k = absurd (let some : 0 < 0 = k refl in omega arith)
int_div_is false true m (suc n) h k = refl
int_div_is true false zero n h k = absurd (let some : 0 < 0 = h refl in omega arith)
int_div_is true false (suc m) n h k = refl
int_div_is true true zero n h k = absurd (let some : 0 < 0 = h refl in omega arith)
int_div_is true true (suc m) zero h k = absurd (let some : 0 < 0 = k refl in omega arith)
int_div_is true true (suc m) (suc n) h k = refl

abs_signed : (s : Bool) (m : ℕ) → unsigned_abs (signed s m) ≡ m
abs_signed false m = refl
abs_signed true zero = refl
abs_signed true (suc m) = refl

pub int_rem_is : (s t : Bool) (m n : ℕ) → IsMagnitude s m → int_rem (signed s m) (signed t n) ≡ signed s (m % n)
int_rem_is false t m n h = ap (λ d. pos (m % d)) (abs_signed t n)
int_rem_is true t zero n h = absurd (let some : 0 < 0 = h refl in omega arith)
int_rem_is true t (suc m) n h = ap (λ d. neg_ℤ (pos (suc m % d))) (abs_signed t n)

-- the remainder of the number after a, from that of a
next_rest : (a n : ℕ) → 0 < n → (suc a % n ≡ 0 → a % n ≡ n - 1) × (0 < suc a % n → suc (a % n) ≡ suc a % n)
next_rest a n some =
    let whole : a / n * n + a % n ≡ a = div-add-mod' a n in
    let small : a % n < n = mod-lt a some in
    elim (cases_lt (suc (a % n)) n) [
      | inl less ↦
          let sum : a / n * n + suc (a % n) ≡ suc a = omega arith in
          let rest : suc (a % n) ≡ suc a % n = sym (mod-mul-add (a / n) n (suc (a % n)) less) ∙ ap (λ k. k % n) sum in
          (λ none. absurd (omega arith), λ more. rest)
      | inr full ↦
          let last : suc (a % n) ≡ n = omega arith in
          let sum : suc (a / n) * n + 0 ≡ suc a = omega arith in
          let rest : 0 ≡ suc a % n = sym (mod-mul-add (suc (a / n)) n 0 some) ∙ ap (λ k. k % n) sum in
          (λ none. omega arith, λ more. absurd (omega arith))
    ]

euclid_none : (s t : Bool) (m n : ℕ) → IsMagnitude s m → 0 < n → m % n ≡ 0 → int_rem_euclid (signed s m) (signed t n) ≡ pos 0
euclid_none false t m n h some none = ap (λ d. pos (m % d)) (abs_signed t n) ∙ ap pos none
euclid_none true t zero n h some none = absurd (let more : 0 < 0 = h refl in omega arith)
euclid_none true t (suc a) n h some none =
    let rest : a % n ≡ n - 1 = (next_rest a n some).0 none in
    let number : n - 1 - a % n ≡ 0 = omega arith in
    ap (λ d. pos (d - 1 - a % d)) (abs_signed t n) ∙ ap pos number

euclid_some : (s t : Bool) (m n : ℕ) → IsMagnitude s m → 0 < n → 0 < m % n → int_rem_euclid (signed s m) (signed t n) ≡ pos (cond s (n - m % n) (m % n))
euclid_some false t m n h some more = ap (λ d. pos (m % d)) (abs_signed t n)
euclid_some true t zero n h some more = absurd (let more : 0 < 0 = h refl in omega arith)
euclid_some true t (suc a) n h some more =
    let rest : suc (a % n) ≡ suc a % n = (next_rest a n some).1 more in
    let number : n - 1 - a % n ≡ n - suc a % n = omega arith in
    ap (λ d. pos (d - 1 - a % d)) (abs_signed t n) ∙ ap pos number

-- the remainder that has the divisor's sign, from that which isn't negative
abbrev with_sign_of : ℤ → ℤ → ℤ
with_sign_of r n = cond (int_lt n (pos 0) && not (int_eq r (pos 0))) (r +ℤ n) r

with_sign_none : (t : Bool) (n : ℕ) → 0 < n → with_sign_of (pos 0) (signed t n) ≡ pos 0
with_sign_none false n some = ap (λ b. cond (b && not (int_eq (pos 0) (pos 0))) (pos 0 +ℤ pos n) (pos 0)) (le-ltb n 0 (omega arith))
with_sign_none true zero some = absurd (omega arith)
with_sign_none true (suc n) some = refl

not_zero : (r : ℕ) → 0 < r → int_eq (pos r) (pos 0) ≡ false
not_zero r some = λ i. is_eq (cond (le-ltb r 0 (omega arith) i) Less (cond (lt-ltb 0 r some i) Greater Equal))

with_sign_some : (t : Bool) (r n : ℕ) → 0 < r → r < n → with_sign_of (pos r) (signed t n) ≡ cond t (neg_ℤ (pos (n - r))) (pos r)
with_sign_some false r n some less = ap (λ b. cond (b && not (int_eq (pos r) (pos 0))) (pos r +ℤ pos n) (pos r)) (le-ltb n 0 (omega arith))
with_sign_some true r zero some less = absurd (omega arith)
with_sign_some true r (suc n) some less = ap (λ b. cond (not b) (pos r +ℤ negsuc n) (pos r)) (not_zero r some) ∙ omega (arith, ints)

pub floor_mod_none : (s t : Bool) (m n : ℕ) → IsMagnitude s m → 0 < n → m % n ≡ 0 → floor_mod (signed s m) (signed t n) ≡ pos 0
floor_mod_none s t m n h some none = ap (λ r. with_sign_of r (signed t n)) (euclid_none s t m n h some none) ∙ with_sign_none t n some

pub floor_mod_some : (s t : Bool) (m n : ℕ) → IsMagnitude s m → 0 < n → 0 < m % n → floor_mod (signed s m) (signed t n) ≡ signed t (cond (beq s t) (m % n) (n - m % n))
floor_mod_some s t m n h some more =
    let small : m % n < n = mod-lt m some in
    ap (λ r. with_sign_of r (signed t n)) (euclid_some s t m n h some more) ∙ by_signs s t (m % n) n more small
  where
    by_signs : (s t : Bool) (r n : ℕ) → 0 < r → r < n → with_sign_of (pos (cond s (n - r) r)) (signed t n) ≡ signed t (cond (beq s t) r (n - r))
    by_signs false false r n more small = with_sign_some false r n more small
    by_signs false true r n more small = with_sign_some true r n more small
    by_signs true false r n more small = with_sign_some false (n - r) n (omega arith) (omega arith)
    by_signs true true r n more small = let back : n - (n - r) ≡ r = omega arith in with_sign_some true (n - r) n (omega arith) (omega arith) ∙ ap (λ k. neg_ℤ (pos k)) back

-- ---- bits

-- a vector whose highest bit is true isn't zero
pub sign_some : (us : BitVector) → sign us ≡ true → 0 < bv2nat us
sign_some [] h = absurd cc
sign_some (true ∷ []) h = omega arith
sign_some (false ∷ []) h = absurd cc
sign_some (a ∷ b ∷ us) h = let more : 0 < bv2nat (b ∷ us) = sign_some (b ∷ us) h in omega arith

abbrev pub magnitude : BitVector → ℕ
magnitude us = cond (sign us) (2 ^ length us - bv2nat us) (bv2nat us)

below_zero : (n m : ℕ) → n < m → pos n -ℤ pos m ≡ neg_ℤ (pos (m - n))
below_zero n m less = omega (arith, ints)

bv2int_is : (us : BitVector) → bv2int us ≡ signed (sign us) (magnitude us)
bv2int_is us = by_sign (sign us) refl
  where
    by_sign : (s : Bool) → sign us ≡ s → cond s (pos (bv2nat us) -ℤ pos (2 ^ length us)) (pos (bv2nat us)) ≡ signed s (cond s (2 ^ length us - bv2nat us) (bv2nat us))
    by_sign true e = below_zero (bv2nat us) (2 ^ length us) (bv2nat-small us)
    by_sign false e = refl

-- the bits of a number of this magnitude
pub int2bv_number : (s : Bool) (w n : ℕ) → n < 2 ^ w → int2bv w (signed s n) ≡ cond s (nat2bv w (2 ^ w - n)) (nat2bv w n)
int2bv_number false w n small = ap (nat2bv w) (mod-eq_of_lt small)
int2bv_number true w zero small =
    let all : 2 ^ w - 0 ≡ 2 ^ w = omega arith in
    ap (nat2bv w) (mod-eq_of_lt small) ∙ nat2bv-zero w ∙ sym (ap (nat2bv w) all ∙ nat2bv-power w)
int2bv_number true w (suc n) small =
    let before : n < 2 ^ w = omega arith in
    let rest : n % 2 ^ w ≡ n = mod-eq_of_lt before in
    let number : 2 ^ w - 1 - n % 2 ^ w ≡ 2 ^ w - suc n = omega arith in
    ap (nat2bv w) number

-- they are the bits of the magnitude, or their opposite
pub int2bv_is : (s : Bool) (us : BitVector) → int2bv (length us) (signed s (bv2nat us)) ≡ cond s (bvneg us) us
int2bv_is s us = int2bv_number s (length us) (bv2nat us) (bv2nat-small us) ∙ ap (cond s (bvneg us)) (nat2bv-bv2nat us)

-- ---- the bits of a magnitude

pub bv2nat-neg : (us : BitVector) → 0 < bv2nat us → bv2nat (bvneg us) ≡ 2 ^ length us - bv2nat us
bv2nat-neg us some =
    let small : bv2nat us < 2 ^ length us = bv2nat-small us in
    bv2nat-nat2bv (length us) (2 ^ length us - bv2nat us) (omega arith)

-- the number of a is the magnitude of that of us
pub record HasMagnitude (us a : BitVector) : Type 0 where
  pub width : length a ≡ length us
  pub size : bv2nat a ≡ magnitude us
  pub number : bv2int us ≡ signed (sign us) (bv2nat a)
  pub negative : IsMagnitude (sign us) (bv2nat a)
  pub some : (bv2nat us ≡ 0 → ⊥) → 0 < bv2nat a

-- the circuit's choice
pub has_magnitude : (us : BitVector) → HasMagnitude us (cond (sign us) (bvneg us) us)
has_magnitude us = by_sign (sign us) refl
  where
    by_sign : (s : Bool) → sign us ≡ s → HasMagnitude us (cond s (bvneg us) us)
    by_sign true e =
        let small : bv2nat us < 2 ^ length us = bv2nat-small us in
        let more : 0 < bv2nat us = sign_some us e in
        let is : bv2nat (bvneg us) ≡ 2 ^ length us - bv2nat us = bv2nat-neg us more in
        let size : bv2nat (bvneg us) ≡ magnitude us = is ∙ ap (λ b. cond b (2 ^ length us - bv2nat us) (bv2nat us)) (sym e) in
        record {
          width = length-bvneg us;
          size = size;
          number = bv2int_is us ∙ ap (signed (sign us)) (sym size);
          negative = λ h. omega arith;
          some = λ h. omega arith;
        }
    by_sign false e =
        let size : bv2nat us ≡ magnitude us = ap (λ b. cond b (2 ^ length us - bv2nat us) (bv2nat us)) (sym e) in
        record {
          width = refl;
          size = size;
          number = bv2int_is us ∙ ap (signed (sign us)) (sym size);
          negative = λ h. absurd (both_ways (sign us) e h);
          some = λ h. omega arith;
        }

pub no_sign : (us : BitVector) → bv2nat us ≡ 0 → sign us ≡ false
no_sign us none = false_from_ne_true (sign us) (λ h. let some : 0 < bv2nat us = sign_some us h in omega arith)
