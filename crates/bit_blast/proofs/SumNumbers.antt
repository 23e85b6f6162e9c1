-- The numbers of sums, differences and inverses of bits.
use Rattle.std.proofs.Common.{◌≡◌, ℕ, suc, ◌+◌, ◌-◌, ◌*◌, ◌%◌, ◌^◌, ◌<◌, ◌≤◌, Bool, true, false, List, [], ◌∷◌, length, refl, ap, sym, ◌∙◌, arith}
use Rattle.std.proofs.Math.Nat.{pow-suc, add-mul-mod_self_right, mod-eq_of_lt}
use Rattle.smt_terms.specs.BitVectors.{BitVector, bit_number, bv2nat, nat2bv}
use Rattle.smt_terms.proofs.BitLaws.{at_width, bv2nat-small, bv2nat-zeros, nat2bv-modulo}
use Rattle.smt_terms.proofs.BitLengths.{length-copies}
use Rattle.bit_blast.specs.Circuits.{Gates, differ, carry, add, sum, inverse, inverses, difference, filled, opposite}
use Rattle.bit_blast.proofs.TruthGates.{truth_gates}

-- ---- how many bits there are

length-add : {A : Type 0} (g : Gates A) (us vs : List A) (c : A) → length us ≡ length vs → length (add g us vs c) ≡ length us
length-add g [] vs c e = refl
length-add g (a ∷ us) [] c e = absurd (omega arith)
length-add g (a ∷ us) (b ∷ vs) c e = ap suc (length-add g us vs (carry g a b c) (omega arith))

pub length-inverses : {A : Type 0} (g : Gates A) (us : List A) → length (inverses g us) ≡ length us
length-inverses g [] = refl
length-inverses g (a ∷ us) = ap suc (length-inverses g us)

pub length-sum : (us vs : BitVector) → length us ≡ length vs → length (sum truth_gates us vs) ≡ length us
length-sum us vs e = length-add truth_gates us vs false e

pub length-difference : (us vs : BitVector) → length us ≡ length vs → length (difference truth_gates us vs) ≡ length us
length-difference us vs e = length-add truth_gates us (inverses truth_gates vs) true (e ∙ sym (length-inverses truth_gates vs))

-- ---- sums with a carry

-- the carry out of the highest bits
abbrev carry_out : BitVector → BitVector → Bool → Bool
carry_out [] _ c = c
carry_out (_ ∷ _) [] c = c
carry_out (a ∷ us) (b ∷ vs) c = carry_out us vs (carry truth_gates a b c)

three_bits : (a b c : Bool) → bit_number (differ truth_gates (differ truth_gates a b) c) + 2 * bit_number (carry truth_gates a b c) ≡ bit_number a + bit_number b + bit_number c
three_bits true true true = refl
three_bits true true false = refl
three_bits true false true = refl
three_bits true false false = refl
three_bits false true true = refl
three_bits false true false = refl
three_bits false false true = refl
three_bits false false false = refl

-- of the lowest bits s, a and b with the carries c and d, the numbers r, u and v above them, and what leaves at the top, o of p
one_more : (s a b c d r u v o p : ℕ) → s + 2 * d ≡ a + b + c → r + p * o ≡ u + v + d → s + 2 * r + (p * 2) * o ≡ (a + 2 * u) + (b + 2 * v) + c
one_more s a b c d r u v o p low high = omega arith

add-number : (us vs : BitVector) (c : Bool) → length us ≡ length vs → bv2nat (add truth_gates us vs c) + 2 ^ length us * bit_number (carry_out us vs c) ≡ bv2nat us + bv2nat vs + bit_number c
add-number [] [] c e = omega arith
add-number [] (b ∷ vs) c e = absurd (omega arith)
add-number (a ∷ us) [] c e = absurd (omega arith)
add-number (a ∷ us) (b ∷ vs) c e =
    let d : Bool = carry truth_gates a b c in
    let s : Bool = differ truth_gates (differ truth_gates a b) c in
    let r : ℕ = bv2nat (add truth_gates us vs d) in
    let o : ℕ = bit_number (carry_out us vs d) in
    ap (λ p. bit_number s + 2 * r + p * o) (pow-suc 2 (length us))
    ∙ one_more (bit_number s) (bit_number a) (bit_number b) (bit_number c) (bit_number d) r (bv2nat us) (bv2nat vs) o (2 ^ length us)
    (three_bits a b c) (add-number us vs d (omega arith))

-- the bits of a number that is more than theirs by no or one time the power
from_number : (us : BitVector) (n : ℕ) (o : Bool) → bv2nat us + 2 ^ length us * bit_number o ≡ n → us ≡ nat2bv (length us) n
from_number us n false e = let same : bv2nat us ≡ n = omega arith in sym (at_width (length us) us refl) ∙ ap (nat2bv (length us)) same
from_number us n true e =
    let same : bv2nat us + 2 ^ length us ≡ n = omega arith in
    sym (at_width (length us) us refl) ∙ sym (nat2bv-modulo (length us) (bv2nat us)) ∙ ap (nat2bv (length us)) same

modulo_number : (us : BitVector) (n : ℕ) (o : Bool) → bv2nat us + 2 ^ length us * bit_number o ≡ n → bv2nat us ≡ n % 2 ^ length us
modulo_number us n false e =
    let same : bv2nat us ≡ n = omega arith in
    sym (mod-eq_of_lt (bv2nat-small us)) ∙ ap (λ k. k % 2 ^ length us) same
modulo_number us n true e =
    let same : bv2nat us + 1 * 2 ^ length us ≡ n = omega arith in
    sym (mod-eq_of_lt (bv2nat-small us)) ∙ sym (add-mul-mod_self_right (bv2nat us) 1 (2 ^ length us)) ∙ ap (λ k. k % 2 ^ length us) same

-- ---- inverses

pub inverses-number : (us : BitVector) → bv2nat (inverses truth_gates us) + bv2nat us + 1 ≡ 2 ^ length us
inverses-number [] = refl
inverses-number (a ∷ us) = step a (bv2nat (inverses truth_gates us)) (bv2nat us) (2 ^ length us) (inverses-number us) ∙ sym (pow-suc 2 (length us))
  where
    step : (a : Bool) (m n p : ℕ) → m + n + 1 ≡ p → (bit_number (inverse truth_gates a) + 2 * m) + (bit_number a + 2 * n) + 1 ≡ p * 2
    step true m n p e = omega arith
    step false m n p e = omega arith

-- ---- sums

sum_equation : (us vs : BitVector) → length us ≡ length vs → (o : Bool) × (bv2nat (sum truth_gates us vs) + 2 ^ length (sum truth_gates us vs) * bit_number o ≡ bv2nat us + bv2nat vs)
sum_equation us vs e =
    let o : Bool = carry_out us vs false in
    let all : bv2nat (sum truth_gates us vs) + 2 ^ length us * bit_number o ≡ bv2nat us + bv2nat vs + 0 = add-number us vs false e in
    (o, ap (λ n. bv2nat (sum truth_gates us vs) + 2 ^ n * bit_number o) (length-sum us vs e) ∙ all ∙ (omega arith))

pub sum-bits : (us vs : BitVector) → length us ≡ length vs → sum truth_gates us vs ≡ nat2bv (length us) (bv2nat us + bv2nat vs)
sum-bits us vs e =
    let found = sum_equation us vs e in
    from_number (sum truth_gates us vs) (bv2nat us + bv2nat vs) found.0 found.1 ∙ ap (λ n. nat2bv n (bv2nat us + bv2nat vs)) (length-sum us vs e)

pub sum-modulo : (us vs : BitVector) → length us ≡ length vs → bv2nat (sum truth_gates us vs) ≡ (bv2nat us + bv2nat vs) % 2 ^ length us
sum-modulo us vs e =
    let found = sum_equation us vs e in
    modulo_number (sum truth_gates us vs) (bv2nat us + bv2nat vs) found.0 found.1 ∙ ap (λ n. (bv2nat us + bv2nat vs) % 2 ^ n) (length-sum us vs e)

pub sum-number : (us vs : BitVector) → length us ≡ length vs → bv2nat us + bv2nat vs < 2 ^ length us → bv2nat (sum truth_gates us vs) ≡ bv2nat us + bv2nat vs
sum-number us vs e small = sum-modulo us vs e ∙ mod-eq_of_lt small

-- ---- differences

difference_equation : (us vs : BitVector) → length us ≡ length vs → (o : Bool) × (bv2nat (difference truth_gates us vs) + 2 ^ length (difference truth_gates us vs) * bit_number o ≡ bv2nat us + (2 ^ length us - bv2nat vs))
difference_equation us vs e =
    let ws : BitVector = inverses truth_gates vs in
    let o : Bool = carry_out us ws true in
    let all : bv2nat (difference truth_gates us vs) + 2 ^ length us * bit_number o ≡ bv2nat us + bv2nat ws + 1 = add-number us ws true (e ∙ sym (length-inverses truth_gates vs)) in
    let turned : bv2nat ws + bv2nat vs + 1 ≡ 2 ^ length us = inverses-number vs ∙ ap (λ n. 2 ^ n) (sym e) in
    (o, ap (λ n. bv2nat (difference truth_gates us vs) + 2 ^ n * bit_number o) (length-difference us vs e) ∙ all ∙ (omega arith))

pub difference-bits : (us vs : BitVector) → length us ≡ length vs → difference truth_gates us vs ≡ nat2bv (length us) (bv2nat us + (2 ^ length us - bv2nat vs))
difference-bits us vs e =
    let found = difference_equation us vs e in
    from_number (difference truth_gates us vs) (bv2nat us + (2 ^ length us - bv2nat vs)) found.0 found.1
    ∙ ap (λ n. nat2bv n (bv2nat us + (2 ^ length us - bv2nat vs))) (length-difference us vs e)

difference-modulo : (us vs : BitVector) → length us ≡ length vs → bv2nat (difference truth_gates us vs) ≡ (bv2nat us + (2 ^ length us - bv2nat vs)) % 2 ^ length us
difference-modulo us vs e =
    let found = difference_equation us vs e in
    modulo_number (difference truth_gates us vs) (bv2nat us + (2 ^ length us - bv2nat vs)) found.0 found.1
    ∙ ap (λ n. (bv2nat us + (2 ^ length us - bv2nat vs)) % 2 ^ n) (length-difference us vs e)

pub difference-number : (us vs : BitVector) → length us ≡ length vs → bv2nat vs ≤ bv2nat us → bv2nat (difference truth_gates us vs) ≡ bv2nat us - bv2nat vs
difference-number us vs e less =
    let small : bv2nat us < 2 ^ length us = bv2nat-small us in
    let rest : bv2nat us - bv2nat vs < 2 ^ length us = omega arith in
    let around : bv2nat us + (2 ^ length us - bv2nat vs) ≡ (bv2nat us - bv2nat vs) + 1 * 2 ^ length us = omega arith in
    difference-modulo us vs e ∙ ap (λ k. k % 2 ^ length us) around ∙ add-mul-mod_self_right (bv2nat us - bv2nat vs) 1 (2 ^ length us) ∙ mod-eq_of_lt rest

-- ---- opposites

pub opposite-bits : (us : BitVector) → opposite truth_gates us ≡ nat2bv (length us) (2 ^ length us - bv2nat us)
opposite-bits us =
    let width : length (filled false us) ≡ length us = length-copies (length us) false in
    let none : bv2nat (filled false us) ≡ 0 = bv2nat-zeros (length us) in
    difference-bits (filled false us) us width
    ∙ (λ i. nat2bv (width i) (none i + (2 ^ width i - bv2nat us)))
    ∙ ap (nat2bv (length us)) (omega arith)
