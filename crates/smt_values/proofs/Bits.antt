-- Bits of a word and lists of bits.
use Rattle.std.proofs.Common.{◌≡◌, ℕ, zero, suc, ◌+◌, ◌*◌, ◌/◌, ◌%◌, ◌^◌, ◌<◌, true, false, ◌==◌, [], ◌∷◌, length, refl, ap, sym, ◌∙◌, arith}
use Rattle.std.proofs.Math.Nat.{pow-succ', mod-eq_of_lt}
use Rattle.std.proofs.lemmas.Nat.{mod-pow-add, mod_below}
use Rattle.std.proofs.lemmas.Bool.Decides.{nat_tests}
use Rattle.smt_terms.specs.BitVectors.{BitVector, bv2nat, nat2bv, bit_number}
use Rattle.smt_terms.proofs.BitLengths.{length-nat2bv}

pub bv2nat_below : (bs : BitVector) → bv2nat bs < 2 ^ length bs
bv2nat_below [] = omega arith
bv2nat_below (true ∷ bs) = omega (arith, bv2nat_below bs, pow-succ' 2 (length bs))
bv2nat_below (false ∷ bs) = omega (arith, bv2nat_below bs, pow-succ' 2 (length bs))

lowest : (n : ℕ) → bit_number (n % 2 == 1) ≡ n % 2
lowest n = grind (arith, nat_tests)

pub bv2nat-nat2bv : (w n : ℕ) → bv2nat (nat2bv w n) ≡ n % 2 ^ w
bv2nat-nat2bv zero n = let h : n % 1 < 1 = mod_below n 1 (omega arith) in omega arith
bv2nat-nat2bv (suc w) n =
    let rest = bv2nat-nat2bv w (n / 2) in
    let more : w + 1 ≡ suc w = omega arith in
    let split : n % 2 ^ suc w ≡ (n / 2 % 2 ^ w) * 2 + n % 2 = ap (λ k. n % 2 ^ k) (sym more) ∙ mod-pow-add n w 1 in
    let first = lowest n in
    omega (arith, rest, split, first)

pub bv2nat-word : (w n : ℕ) → n < 2 ^ w → bv2nat (nat2bv w n) ≡ n
bv2nat-word w n lt = bv2nat-nat2bv w n ∙ mod-eq_of_lt lt

even_half : (m : ℕ) → (0 + 2 * m) / 2 ≡ m
even_half m = omega arith

odd_half : (m : ℕ) → (1 + 2 * m) / 2 ≡ m
odd_half m = omega arith

even_bit : (m : ℕ) → ((0 + 2 * m) % 2 == 1) ≡ false
even_bit m = grind (arith, nat_tests)

odd_bit : (m : ℕ) → ((1 + 2 * m) % 2 == 1) ≡ true
odd_bit m = grind (arith, nat_tests)

pub nat2bv-bv2nat : (bs : BitVector) → nat2bv (length bs) (bv2nat bs) ≡ bs
nat2bv-bv2nat [] = refl
nat2bv-bv2nat (true ∷ bs) = λ i. odd_bit (bv2nat bs) i ∷ (ap (nat2bv (length bs)) (odd_half (bv2nat bs)) ∙ nat2bv-bv2nat bs) i
nat2bv-bv2nat (false ∷ bs) = λ i. even_bit (bv2nat bs) i ∷ (ap (nat2bv (length bs)) (even_half (bv2nat bs)) ∙ nat2bv-bv2nat bs) i

-- the bits of a number modulo 2 ^ width are those of the number
pub nat2bv-mod : (w n : ℕ) → nat2bv w (n % 2 ^ w) ≡ nat2bv w n
nat2bv-mod w n =
    ap (nat2bv w) (sym (bv2nat-nat2bv w n)) ∙ ap (λ k. nat2bv k (bv2nat (nat2bv w n))) (sym (length-nat2bv w n)) ∙ nat2bv-bv2nat (nat2bv w n)

-- numbers of that width with the same bits are equal
pub nat2bv_one : (w m n : ℕ) → m < 2 ^ w → n < 2 ^ w → nat2bv w m ≡ nat2bv w n → m ≡ n
nat2bv_one w m n a b e = sym (bv2nat-word w m a) ∙ ap bv2nat e ∙ bv2nat-word w n b
