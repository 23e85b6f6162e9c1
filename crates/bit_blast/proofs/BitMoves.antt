-- Bits moved up and down as numbers: up is a product with a power of 2, down is a quotient by one. A move by the width moves all
-- bits out, as one by more does.
use Rattle.std.proofs.Common.{◌≡◌, ℕ, zero, suc, ◌+◌, ◌-◌, ◌*◌, ◌/◌, ◌^◌, ◌<◌, ◌≤◌, min, Bool, true, false, not, [], ◌∷◌, ◌++◌, map, length, take, drop, replicate, refl, ap, sym, ◌∙◌, inl, inr, arith, length-append, length-drop, length-take-le, take-append-drop, pow-add, pow_mono}
use Rattle.std.proofs.Math.Nat.{mul-one, mul_assoc, div-one, zero-div, div-div-eq-div-mul, pow-suc, pow-succ', div-eq_of_lt, zero-mul, lt_of_lt_of_le, sub-add_cancel}
use Rattle.std.proofs.lemmas.Bool.{cases_lt}
use Rattle.std.proofs.lemmas.List.{map-append, drop-map}
use Rattle.smt_terms.specs.BitVectors.{BitVector, bit_number, bv2nat, nat2bv, zeros, bvnot}
use Rattle.smt_terms.proofs.BitLaws.{at_width, bv2nat-zeros}
use Rattle.smt_terms.proofs.BitLengths.{length-copies, length-bvnot}
use Rattle.bit_blast.specs.Circuits.{up, down}
use Rattle.bit_blast.proofs.BitResidues.{nat2bv-multiples}

-- ---- parts of bits

bv2nat-append : (us vs : BitVector) → bv2nat (us ++ vs) ≡ bv2nat us + bv2nat vs * 2 ^ length us
bv2nat-append [] vs = let product : bv2nat vs * 2 ^ 0 ≡ bv2nat vs = mul-one (bv2nat vs) in omega (arith, product)
bv2nat-append (b ∷ us) vs =
    let behind : bv2nat (us ++ vs) ≡ bv2nat us + bv2nat vs * 2 ^ length us = bv2nat-append us vs in
    let power : bv2nat vs * 2 ^ suc (length us) ≡ bv2nat vs * 2 ^ length us * 2 = ap (λ k. bv2nat vs * k) (pow-suc 2 (length us)) ∙ sym (mul_assoc (bv2nat vs) (2 ^ length us) 2) in
    omega (arith, behind, power)

-- zeros below, and above
above-zeros : (n : ℕ) (us : BitVector) → bv2nat (zeros n ++ us) ≡ bv2nat us * 2 ^ n
above-zeros n us =
    let whole : bv2nat (zeros n ++ us) ≡ bv2nat (zeros n) + bv2nat us * 2 ^ length (zeros n) = bv2nat-append (zeros n) us in
    let power : bv2nat us * 2 ^ length (zeros n) ≡ bv2nat us * 2 ^ n = ap (λ k. bv2nat us * 2 ^ k) (length-copies n false) in
    omega (arith, whole, power, bv2nat-zeros n)

below-zeros : (us : BitVector) (n : ℕ) → bv2nat (us ++ zeros n) ≡ bv2nat us
below-zeros us n =
    let whole : bv2nat (us ++ zeros n) ≡ bv2nat us + bv2nat (zeros n) * 2 ^ length us = bv2nat-append us (zeros n) in
    let none : bv2nat (zeros n) * 2 ^ length us ≡ 0 = ap (λ k. k * 2 ^ length us) (bv2nat-zeros n) ∙ zero-mul (2 ^ length us) in
    omega (arith, whole, none)

take-number : (w : ℕ) (us : BitVector) → w ≤ length us → take w us ≡ nat2bv w (bv2nat us)
take-number w us h =
    let width : length (take w us) ≡ w = length-take-le w us h in
    let parts : bv2nat us ≡ bv2nat (take w us) + bv2nat (drop w us) * 2 ^ w
    = ap bv2nat (sym (take-append-drop w us)) ∙ bv2nat-append (take w us) (drop w us) ∙ ap (λ k. bv2nat (take w us) + bv2nat (drop w us) * 2 ^ k) width in
    sym (at_width w (take w us) width) ∙ sym (nat2bv-multiples w (bv2nat (take w us)) (bv2nat (drop w us))) ∙ ap (nat2bv w) (sym parts)

half_of : (b : Bool) (n : ℕ) → (bit_number b + 2 * n) / 2 ≡ n
half_of true n = omega arith
half_of false n = omega arith

drop-number : (n : ℕ) (us : BitVector) → bv2nat (drop n us) ≡ bv2nat us / 2 ^ n
drop-number zero us = sym (div-one (bv2nat us))
drop-number (suc n) [] = sym (zero-div (2 ^ suc n))
drop-number (suc n) (b ∷ us) =
    let all : ℕ = bit_number b + 2 * bv2nat us in
    drop-number n us ∙ ap (λ k. k / 2 ^ n) (sym (half_of b (bv2nat us))) ∙ div-div-eq-div-mul all 2 (2 ^ n) ∙ ap (λ k. all / k) (sym (pow-succ' 2 n))

-- ---- all bits moved out

none_left : (w n x : ℕ) → w ≤ n → nat2bv w (x * 2 ^ n) ≡ nat2bv w 0
none_left w n x h =
    let far : n ≡ n - w + w = sym (sub-add_cancel h) in
    let power : x * 2 ^ n ≡ x * 2 ^ (n - w) * 2 ^ w = ap (λ k. x * 2 ^ k) far ∙ ap (λ k. x * k) (pow-add 2 (n - w) w) ∙ sym (mul_assoc x (2 ^ (n - w)) (2 ^ w)) in
    let product : x * 2 ^ n ≡ 0 + x * 2 ^ (n - w) * 2 ^ w = omega (arith, power) in
    ap (nat2bv w) product ∙ nat2bv-multiples w 0 (x * 2 ^ (n - w))

pub up_within : (w n x : ℕ) → nat2bv w (x * 2 ^ min n w) ≡ nat2bv w (x * 2 ^ n)
up_within w n x = elim (cases_lt n w) [
  | inl less ↦ let near : min n w ≡ n = omega arith in ap (λ k. nat2bv w (x * 2 ^ k)) near
  | inr more ↦ let far : min n w ≡ w = omega arith in
      let itself : w ≤ w = omega arith in
      ap (λ k. nat2bv w (x * 2 ^ k)) far ∙ none_left w w x itself ∙ sym (none_left w n x more)
]

pub down_within : (w n x : ℕ) → x < 2 ^ w → x / 2 ^ min n w ≡ x / 2 ^ n
down_within w n x small = elim (cases_lt n w) [
  | inl less ↦ let near : min n w ≡ n = omega arith in ap (λ k. x / 2 ^ k) near
  | inr more ↦ let far : min n w ≡ w = omega arith in
      ap (λ k. x / 2 ^ k) far ∙ div-eq_of_lt small ∙ sym (div-eq_of_lt (lt_of_lt_of_le small (pow_mono more)))
]

-- ---- the numbers of moved bits

pub up_number : (n : ℕ) (us : BitVector) → up false n us ≡ nat2bv (length us) (bv2nat us * 2 ^ n)
up_number n us =
    let w : ℕ = length us in
    let k : ℕ = min n w in
    let width : length (zeros k ++ us) ≡ k + w = length-append (zeros k) us ∙ ap (λ j. j + w) (length-copies k false) in
    let enough : w ≤ length (zeros k ++ us) = omega (arith, width) in
    take-number w (zeros k ++ us) enough ∙ ap (nat2bv w) (above-zeros k us) ∙ up_within w n (bv2nat us)

pub length-up : (f : Bool) (n : ℕ) (us : BitVector) → length (up f n us) ≡ length us
length-up f n us =
    let k : ℕ = min n (length us) in
    let width : length (replicate k f ++ us) ≡ k + length us = length-append (replicate k f) us ∙ ap (λ j. j + length us) (length-copies k f) in
    length-take-le (length us) (replicate k f ++ us) (omega (arith, width))

pub length-down : (f : Bool) (n : ℕ) (us : BitVector) → length (down f n us) ≡ length us
length-down f n us =
    let k : ℕ = min n (length us) in
    let sum : length (down f n us) ≡ length (drop n us) + k = length-append (drop n us) (replicate k f) ∙ ap (λ j. length (drop n us) + j) (length-copies k f) in
    let rest : length (drop n us) ≡ length us - n = length-drop n us in
    omega (arith, sum, rest)

pub down_number : (n : ℕ) (us : BitVector) → down false n us ≡ nat2bv (length us) (bv2nat us / 2 ^ n)
down_number n us =
    sym (at_width (length us) (down false n us) (length-down false n us))
    ∙ ap (nat2bv (length us)) (below-zeros (drop n us) (min n (length us)) ∙ drop-number n us)

-- ---- ones that come in are the inverses of zeros

map-copies : (n : ℕ) (b : Bool) → map not (replicate n b) ≡ replicate n (not b)
map-copies zero b = refl
map-copies (suc n) b = ap (λ bs. not b ∷ bs) (map-copies n b)

pub down-bvnot : (n : ℕ) (us : BitVector) → bvnot (down false n us) ≡ down true n (bvnot us)
down-bvnot n us =
    let k : ℕ = min n (length us) in
    let width : k ≡ min n (length (bvnot us)) = ap (min n) (sym (length-bvnot us)) in
    map-append not (drop n us) (zeros k) ∙ ap (λ bs. bs ++ map not (zeros k)) (sym (drop-map not n us)) ∙ ap (λ bs. drop n (bvnot us) ++ bs) (map-copies k false ∙ ap (λ j. replicate j true) width)
