-- Bits that a circuit chooses, over truth values, and what numbers a difference and the lowest bits are.
use Rattle.std.proofs.Common.{◌≡◌, ℕ, zero, suc, ◌+◌, ◌-◌, ◌*◌, ◌^◌, ◌<◌, ◌≤◌, Bool, true, false, cond, [], ◌∷◌, ◌++◌, length, take, refl, ap, sym, ◌∙◌, arith, pow-suc}
use Rattle.smt_terms.specs.BitVectors.{BitVector, bit_number, bv2nat, nat2bv, bvsub}
use Rattle.smt_terms.proofs.BitLaws.{bv2nat-small, nat2bv-modulo}
use Rattle.smt_terms.proofs.ConstantTerms.{bv2nat-nat2bv}
use Rattle.bit_blast.specs.Circuits.{chosen}
use Rattle.bit_blast.proofs.TruthGates.{truth_gates}

pub chosen_is : (c : Bool) (us vs : BitVector) → length us ≡ length vs → chosen truth_gates c us vs ≡ cond c us vs
chosen_is true [] [] e = refl
chosen_is false [] [] e = refl
chosen_is true (a ∷ us) (b ∷ vs) e = ap (λ s. a ∷ s) (chosen_is true us vs (omega arith))
chosen_is false (a ∷ us) (b ∷ vs) e = ap (λ s. b ∷ s) (chosen_is false us vs (omega arith))
chosen_is c [] (b ∷ vs) e = absurd (omega arith)
chosen_is c (a ∷ us) [] e = absurd (omega arith)

length-chosen : (c : Bool) (us vs : BitVector) → length us ≡ length vs → length (chosen truth_gates c us vs) ≡ length us
length-chosen true us vs e = ap length (chosen_is true us vs e)
length-chosen false us vs e = ap length (chosen_is false us vs e) ∙ sym e

-- the first of three whose test is passed, and else the fourth
pub chosen_of_four : (p q r : Bool) (us vs xs ys : BitVector) → length vs ≡ length us → length xs ≡ length us → length ys ≡ length us
    → chosen truth_gates p us (chosen truth_gates q vs (chosen truth_gates r xs ys)) ≡ cond p us (cond q vs (cond r xs ys))
chosen_of_four p q r us vs xs ys second third fourth =
    let last : length xs ≡ length ys = third ∙ sym fourth in
    let last_width : length (chosen truth_gates r xs ys) ≡ length us = length-chosen r xs ys last ∙ third in
    let later : length vs ≡ length (chosen truth_gates r xs ys) = second ∙ sym last_width in
    let later_width : length (chosen truth_gates q vs (chosen truth_gates r xs ys)) ≡ length us = length-chosen q vs (chosen truth_gates r xs ys) later ∙ second in
    chosen_is p us (chosen truth_gates q vs (chosen truth_gates r xs ys)) (sym later_width)
    ∙ ap (cond p us) (chosen_is q vs (chosen truth_gates r xs ys) later ∙ ap (cond q vs) (chosen_is r xs ys last))

-- a difference of numbers that isn't below zero
pub bv2nat-sub : (s t : BitVector) → bv2nat t ≤ bv2nat s → bv2nat (bvsub s t) ≡ bv2nat s - bv2nat t
bv2nat-sub s t below =
    let small : bv2nat s < 2 ^ length s = bv2nat-small s in
    let sum : bv2nat s + (2 ^ length s - bv2nat t) ≡ bv2nat s - bv2nat t + 2 ^ length s = omega arith in
    let less : bv2nat s - bv2nat t < 2 ^ length s = omega arith in
    ap bv2nat (ap (nat2bv (length s)) sum ∙ nat2bv-modulo (length s) (bv2nat s - bv2nat t)) ∙ bv2nat-nat2bv (length s) (bv2nat s - bv2nat t) less

-- without the highest bit, for a number that doesn't need it
pub bv2nat-take : (n : ℕ) (us : BitVector) → length us ≡ suc n → bv2nat us < 2 ^ n → bv2nat (take n us) ≡ bv2nat us
bv2nat-take n [] e small = absurd (omega arith)
bv2nat-take zero (a ∷ us) e small = omega arith
bv2nat-take (suc n) (a ∷ us) e small =
    let power : 2 ^ suc n ≡ 2 ^ n * 2 = pow-suc 2 n in
    let less : bv2nat us < 2 ^ n = omega arith in
    ap (λ k. bit_number a + 2 * k) (bv2nat-take n us (omega arith) less)

-- with a highest bit that is false
pub bv2nat-wider : (vs : BitVector) → bv2nat (vs ++ false ∷ []) ≡ bv2nat vs
bv2nat-wider [] = refl
bv2nat-wider (b ∷ vs) = ap (λ k. bit_number b + 2 * k) (bv2nat-wider vs)
