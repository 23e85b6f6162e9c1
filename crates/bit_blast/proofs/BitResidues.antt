-- The bits of a number at a width are those of its remainder by the power of 2 of that width.
use Rattle.std.proofs.Common.{◌≡◌, ℕ, zero, suc, ◌+◌, ◌*◌, ◌/◌, ◌%◌, ◌^◌, ap, sym, ◌∙◌, pow_pos, arith}
use Rattle.std.proofs.Math.Nat.{mod-add-div', mod-lt, mod-add-mod, suc-mul, add_comm}
use Rattle.std.proofs.lemmas.Nat.{mul-mod_first}
use Rattle.smt_terms.specs.BitVectors.{bv2nat, nat2bv}
use Rattle.smt_terms.proofs.BitLaws.{nat2bv-modulo}
use Rattle.smt_terms.proofs.ConstantTerms.{bv2nat-nat2bv}

pub nat2bv-multiples : (w n q : ℕ) → nat2bv w (n + q * 2 ^ w) ≡ nat2bv w n
nat2bv-multiples w n zero = let sum : n + 0 * 2 ^ w ≡ n = omega arith in ap (nat2bv w) sum
nat2bv-multiples w n (suc q) =
    let product : suc q * 2 ^ w ≡ q * 2 ^ w + 2 ^ w = suc-mul q (2 ^ w) in
    let sum : n + suc q * 2 ^ w ≡ n + q * 2 ^ w + 2 ^ w = omega (arith, product) in
    ap (nat2bv w) sum ∙ nat2bv-modulo w (n + q * 2 ^ w) ∙ nat2bv-multiples w n q

nat2bv-mod : (w n : ℕ) → nat2bv w (n % 2 ^ w) ≡ nat2bv w n
nat2bv-mod w n = sym (nat2bv-multiples w (n % 2 ^ w) (n / 2 ^ w)) ∙ ap (nat2bv w) (mod-add-div' n (2 ^ w))

bv2nat-mod : (w n : ℕ) → bv2nat (nat2bv w n) ≡ n % 2 ^ w
bv2nat-mod w n = ap bv2nat (sym (nat2bv-mod w n)) ∙ bv2nat-nat2bv w (n % 2 ^ w) (mod-lt n (pow_pos w))

same_bits : (w m n : ℕ) → m % 2 ^ w ≡ n % 2 ^ w → nat2bv w m ≡ nat2bv w n
same_bits w m n e = sym (nat2bv-mod w m) ∙ ap (nat2bv w) e ∙ nat2bv-mod w n

-- ---- sums and products with the number that the bits of a number are

pub bits-plus : (w n k : ℕ) → nat2bv w (bv2nat (nat2bv w n) + k) ≡ nat2bv w (n + k)
bits-plus w n k = same_bits w (bv2nat (nat2bv w n) + k) (n + k) (ap (λ r. (r + k) % 2 ^ w) (bv2nat-mod w n) ∙ mod-add-mod n (2 ^ w) k)

pub plus-bits : (w k n : ℕ) → nat2bv w (k + bv2nat (nat2bv w n)) ≡ nat2bv w (k + n)
plus-bits w k n = ap (nat2bv w) (add_comm k (bv2nat (nat2bv w n))) ∙ bits-plus w n k ∙ ap (nat2bv w) (add_comm n k)

pub bits-times : (w n k : ℕ) → nat2bv w (bv2nat (nat2bv w n) * k) ≡ nat2bv w (n * k)
bits-times w n k = same_bits w (bv2nat (nat2bv w n) * k) (n * k) (ap (λ r. (r * k) % 2 ^ w) (bv2nat-mod w n) ∙ mul-mod_first n k (2 ^ w))
