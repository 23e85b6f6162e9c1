-- The circuit for products gives the product of the numbers that its operands are.
use Rattle.std.proofs.Common.{◌≡◌, ℕ, suc, ◌+◌, ◌*◌, ◌^◌, ◌<◌, Bool, true, false, [], ◌∷◌, map, length, refl, ap, sym, ◌∙◌, subst, arith}
use Rattle.std.proofs.Math.Nat.{mul-zero, mul-one, mul-add, mul_assoc, pow-suc}
use Rattle.smt_terms.specs.BitVectors.{BitVector, bit_number, bv2nat, nat2bv, zeros}
use Rattle.smt_terms.proofs.BitLaws.{nat2bv-bv2nat, nat2bv-zero, bv2nat-zeros}
use Rattle.smt_terms.proofs.BitLengths.{length-nat2bv, length-copies}
use Rattle.bit_blast.specs.Circuits.{both, sum, up, with_products}
use Rattle.bit_blast.proofs.TruthGates.{truth_gates}
use Rattle.bit_blast.proofs.CircuitStatements.{ProductsAreRight}
use Rattle.bit_blast.proofs.SumValues.{sums}
use Rattle.bit_blast.proofs.BitResidues.{bits-plus, plus-bits}
use Rattle.bit_blast.proofs.BitMoves.{up_number}

both_true : (us : BitVector) → map (both truth_gates true) us ≡ us
both_true [] = refl
both_true (true ∷ us) = ap (λ bs. true ∷ bs) (both_true us)
both_true (false ∷ us) = ap (λ bs. false ∷ bs) (both_true us)

both_false : (us : BitVector) → map (both truth_gates false) us ≡ zeros (length us)
both_false [] = refl
both_false (_ ∷ us) = ap (λ bs. false ∷ bs) (both_false us)

-- the bits of a number or none, by this bit
times_bit : (b : Bool) (w n : ℕ) → map (both truth_gates b) (nat2bv w n) ≡ nat2bv w (n * bit_number b)
times_bit true w n = both_true (nat2bv w n) ∙ ap (nat2bv w) (sym (mul-one n))
times_bit false w n = both_false (nat2bv w n) ∙ ap zeros (length-nat2bv w n) ∙ sym (nat2bv-zero w) ∙ ap (nat2bv w) (sym (mul-zero n))

-- the sum with one product
with_product : (b : Bool) (k : ℕ) (us r : BitVector) → 0 < length us → length r ≡ length us
    → sum truth_gates r (map (both truth_gates b) (up false k us)) ≡ nat2bv (length us) (bv2nat r + bv2nat us * 2 ^ k * bit_number b)
with_product b k us r some width =
    let w : ℕ = length us in
    let n : ℕ = bv2nat us * 2 ^ k * bit_number b in
    let product : map (both truth_gates b) (up false k us) ≡ nat2bv w n = ap (map (both truth_gates b)) (up_number k us) ∙ times_bit b w (bv2nat us * 2 ^ k) in
    ap (sum truth_gates r) product
    ∙ sums.0 r (nat2bv w n) (width ∙ sym (length-nat2bv w n)) (subst (λ j. 0 < j) (sym width) some)
    ∙ ap (λ j. nat2bv j (bv2nat r + bv2nat (nat2bv w n))) width
    ∙ plus-bits w (bv2nat r) n

-- the products with a bit and with those above it
products_together : (x p b n : ℕ) → x * p * b + x * (p * 2) * n ≡ x * p * (b + 2 * n)
products_together x p b n =
    let power : x * (p * 2) * n ≡ x * p * (2 * n) = ap (λ k. k * n) (sym (mul_assoc x p 2)) ∙ mul_assoc (x * p) 2 n in
    ap (λ k. x * p * b + k) power ∙ sym (mul-add (x * p) b (2 * n))

products_from : (k : ℕ) (us vs r : BitVector) → 0 < length us → length r ≡ length us
    → with_products truth_gates k us vs r ≡ nat2bv (length us) (bv2nat r + bv2nat us * 2 ^ k * bv2nat vs)
products_from k us [] r some width =
    let none : bv2nat us * 2 ^ k * 0 ≡ 0 = mul-zero (bv2nat us * 2 ^ k) in
    let sum : bv2nat r ≡ bv2nat r + bv2nat us * 2 ^ k * 0 = omega (arith, none) in
    sym (nat2bv-bv2nat r) ∙ ap (λ j. nat2bv j (bv2nat r)) width ∙ ap (nat2bv (length us)) sum
products_from k us (b ∷ vs) r some width =
    let w : ℕ = length us in
    let x : ℕ = bv2nat us in
    let y : ℕ = x * 2 ^ k * bit_number b in
    let z : ℕ = x * 2 ^ suc k * bv2nat vs in
    let s : BitVector = sum truth_gates r (map (both truth_gates b) (up false k us)) in
    let here : s ≡ nat2bv w (bv2nat r + y) = with_product b k us r some width in
    let kept : length s ≡ w = ap length here ∙ length-nat2bv w (bv2nat r + y) in
    let products : y + z ≡ x * 2 ^ k * (bit_number b + 2 * bv2nat vs) = ap (λ j. y + x * j * bv2nat vs) (pow-suc 2 k) ∙ products_together x (2 ^ k) (bit_number b) (bv2nat vs) in
    let all : bv2nat r + y + z ≡ bv2nat r + x * 2 ^ k * (bit_number b + 2 * bv2nat vs) = omega (arith, products) in
    products_from (suc k) us vs s some kept ∙ ap (λ bs. nat2bv w (bv2nat bs + z)) here ∙ bits-plus w (bv2nat r + y) z ∙ ap (nat2bv w) all

pub products : ProductsAreRight
products us vs same some =
    let w : ℕ = length us in
    let product : bv2nat (zeros w) + bv2nat us * 2 ^ 0 * bv2nat vs ≡ bv2nat us * bv2nat vs
    = ap (λ k. k + bv2nat us * 2 ^ 0 * bv2nat vs) (bv2nat-zeros w) ∙ (omega (arith, ap (λ k. k * bv2nat vs) (mul-one (bv2nat us)))) in
    products_from 0 us vs (zeros w) some (length-copies w false) ∙ ap (nat2bv w) product
