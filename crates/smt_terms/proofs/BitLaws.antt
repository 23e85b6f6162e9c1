-- Laws of bit vectors: numbers and bits back and forth, zero, all ones, and operators over one bit vector twice.
use Rattle.std.proofs.Common.{◌≡◌, ℕ, zero, suc, ◌+◌, ◌-◌, ◌*◌, ◌/◌, ◌%◌, ◌^◌, ◌<◌, Bool, true, false, cond, ◌&&◌, ◌||◌, ◌==◌, [], ◌∷◌, ◌++◌, take, drop, length, append-nil, pow_pos, refl, ap, sym, ◌∙◌, subst, inl, inr, arith}
use Rattle.std.specs.Prelude.{min}
use Rattle.std.proofs.Math.Nat.{pow-suc, add-mul-mod_self_right, add-mul-div_right, div-one, mod-one, mul-one}
use Rattle.std.proofs.Math.Seq.{take-length, drop-length}
use Rattle.std.proofs.lemmas.Bool.Decides.{Decides-eqb, not_from_Decides}
use Rattle.smt_terms.specs.BitVectors.{BitVector, bit_number, bv2nat, nat2bv, zeros, ones, bvnot, bvneg, bvand, bvor, bvxor, bvadd, bvmul, bvsub, bvudiv, bvurem, distance, bvshl, bvlshr, bvashr, sign, zero_extend, sign_extend, rotate_left, rotate_right, extract}
use Rattle.smt_terms.proofs.Tests.{true_or_false}
use Rattle.smt_terms.proofs.BitLengths.{length-nat2bv}
use Rattle.smt_terms.proofs.ConstantTerms.{bv2nat-nat2bv}

-- ---- bits and numbers

half_of : (b : Bool) (n : ℕ) → (bit_number b + 2 * n) / 2 ≡ n
half_of true n = omega arith
half_of false n = omega arith

low_of : (b : Bool) (n : ℕ) → ((bit_number b + 2 * n) % 2 == 1) ≡ b
low_of true n = let e : (1 + 2 * n) % 2 ≡ 1 = omega arith in ap (λ r. r == 1) e
low_of false n = let e : (0 + 2 * n) % 2 ≡ 0 = omega arith in ap (λ r. r == 1) e

pub nat2bv-bv2nat : (bs : BitVector) → nat2bv (length bs) (bv2nat bs) ≡ bs
nat2bv-bv2nat [] = refl
nat2bv-bv2nat (b ∷ bs) = λ i. low_of b (bv2nat bs) i ∷ (ap (nat2bv (length bs)) (half_of b (bv2nat bs)) ∙ nat2bv-bv2nat bs) i

-- at the width of another
pub at_width : (w : ℕ) (bs : BitVector) → length bs ≡ w → nat2bv w (bv2nat bs) ≡ bs
at_width w bs e = ap (λ u. nat2bv u (bv2nat bs)) (sym e) ∙ nat2bv-bv2nat bs

bit_below : (b : Bool) → bit_number b < 2
bit_below true = omega arith
bit_below false = omega arith

pub bv2nat-small : (bs : BitVector) → bv2nat bs < 2 ^ length bs
bv2nat-small [] = omega arith
bv2nat-small (b ∷ bs) =
    let power : 2 ^ suc (length bs) ≡ 2 ^ length bs * 2 = pow-suc 2 (length bs) in
    let behind : bv2nat bs < 2 ^ length bs = bv2nat-small bs in
    let here : bit_number b < 2 = bit_below b in
    let less : bit_number b + 2 * bv2nat bs < 2 ^ length bs * 2 = omega arith in
    subst (λ k. bit_number b + 2 * bv2nat bs < k) (sym power) less

-- modulo the width
pub nat2bv-modulo : (w n : ℕ) → nat2bv w (n + 2 ^ w) ≡ nat2bv w n
nat2bv-modulo zero n = refl
nat2bv-modulo (suc w) n =
    let some : 0 < 2 = omega arith in
    let power : n + 2 ^ suc w ≡ n + 2 ^ w * 2 = ap (λ k. n + k) (pow-suc 2 w) in
    let low : (n + 2 ^ suc w) % 2 ≡ n % 2 = ap (λ k. k % 2) power ∙ add-mul-mod_self_right n (2 ^ w) 2 in
    let high : (n + 2 ^ suc w) / 2 ≡ n / 2 + 2 ^ w = ap (λ k. k / 2) power ∙ add-mul-div_right n (2 ^ w) some in
    λ i. (low i == 1) ∷ (ap (nat2bv w) high ∙ nat2bv-modulo w (n / 2)) i

-- ---- zero

pub nat2bv-zero : (w : ℕ) → nat2bv w 0 ≡ zeros w
nat2bv-zero zero = refl
nat2bv-zero (suc w) = ap (λ bs. false ∷ bs) (nat2bv-zero w)

no_bit : (b : Bool) (n : ℕ) → bit_number b + 2 * n ≡ 0 → (b ≡ false) × (n ≡ 0)
no_bit true n e = absurd (omega arith)
no_bit false n e = let none : n ≡ 0 = omega arith in (refl, none)

pub zero_bits : (bs : BitVector) → bv2nat bs ≡ 0 → bs ≡ zeros (length bs)
zero_bits [] e = refl
zero_bits (b ∷ bs) e =
    let parts = no_bit b (bv2nat bs) e in
    λ i. parts.0 i ∷ zero_bits bs parts.1 i

pub bv2nat-zeros : (w : ℕ) → bv2nat (zeros w) ≡ 0
bv2nat-zeros zero = refl
bv2nat-zeros (suc w) = ap (λ n. 0 + 2 * n) (bv2nat-zeros w)

pub nat2bv-power : (w : ℕ) → nat2bv w (2 ^ w) ≡ zeros w
nat2bv-power w = let sum : 2 ^ w ≡ 0 + 2 ^ w = omega arith in ap (nat2bv w) sum ∙ nat2bv-modulo w 0 ∙ nat2bv-zero w

-- ---- all ones

pub nat2bv-ones : (w : ℕ) → nat2bv w (2 ^ w - 1) ≡ ones w
nat2bv-ones zero = refl
nat2bv-ones (suc w) =
    let power : 2 ^ suc w ≡ 2 ^ w * 2 = pow-suc 2 w in
    let some : 0 < 2 ^ w = pow_pos w in
    let low : (2 ^ suc w - 1) % 2 ≡ 1 = ap (λ k. (k - 1) % 2) power ∙ (omega arith) in
    let high : (2 ^ suc w - 1) / 2 ≡ 2 ^ w - 1 = ap (λ k. (k - 1) / 2) power ∙ (omega arith) in
    λ i. (low i == 1) ∷ (ap (nat2bv w) high ∙ nat2bv-ones w) i

-- ---- bit by bit

pub and-zeros : (w : ℕ) (bs : BitVector) → length bs ≡ w → bvand (zeros w) bs ≡ zeros w
and-zeros zero bs e = refl
and-zeros (suc w) [] e = absurd (omega arith)
and-zeros (suc w) (b ∷ bs) e = ap (λ s. false ∷ s) (and-zeros w bs (omega arith))

pub zeros-and : (w : ℕ) (bs : BitVector) → length bs ≡ w → bvand bs (zeros w) ≡ zeros w
zeros-and zero [] e = refl
zeros-and zero (b ∷ bs) e = absurd (omega arith)
zeros-and (suc w) [] e = absurd (omega arith)
zeros-and (suc w) (b ∷ bs) e = λ i. no_and b i ∷ zeros-and w bs (omega arith) i
  where
    no_and : (b : Bool) → (b && false) ≡ false
    no_and true = refl
    no_and false = refl

pub and-ones : (w : ℕ) (bs : BitVector) → length bs ≡ w → bvand (ones w) bs ≡ bs
and-ones zero [] e = refl
and-ones zero (b ∷ bs) e = absurd (omega arith)
and-ones (suc w) [] e = absurd (omega arith)
and-ones (suc w) (b ∷ bs) e = ap (λ s. b ∷ s) (and-ones w bs (omega arith))

pub ones-and : (w : ℕ) (bs : BitVector) → length bs ≡ w → bvand bs (ones w) ≡ bs
ones-and zero [] e = refl
ones-and zero (b ∷ bs) e = absurd (omega arith)
ones-and (suc w) [] e = absurd (omega arith)
ones-and (suc w) (b ∷ bs) e = λ i. and_yes b i ∷ ones-and w bs (omega arith) i
  where
    and_yes : (b : Bool) → (b && true) ≡ b
    and_yes true = refl
    and_yes false = refl

pub and-itself : (bs : BitVector) → bvand bs bs ≡ bs
and-itself [] = refl
and-itself (true ∷ bs) = ap (λ s. true ∷ s) (and-itself bs)
and-itself (false ∷ bs) = ap (λ s. false ∷ s) (and-itself bs)

pub or-zeros : (w : ℕ) (bs : BitVector) → length bs ≡ w → bvor (zeros w) bs ≡ bs
or-zeros zero [] e = refl
or-zeros zero (b ∷ bs) e = absurd (omega arith)
or-zeros (suc w) [] e = absurd (omega arith)
or-zeros (suc w) (b ∷ bs) e = ap (λ s. b ∷ s) (or-zeros w bs (omega arith))

pub zeros-or : (w : ℕ) (bs : BitVector) → length bs ≡ w → bvor bs (zeros w) ≡ bs
zeros-or zero [] e = refl
zeros-or zero (b ∷ bs) e = absurd (omega arith)
zeros-or (suc w) [] e = absurd (omega arith)
zeros-or (suc w) (b ∷ bs) e = λ i. or_no b i ∷ zeros-or w bs (omega arith) i
  where
    or_no : (b : Bool) → (b || false) ≡ b
    or_no true = refl
    or_no false = refl

pub or-ones : (w : ℕ) (bs : BitVector) → length bs ≡ w → bvor (ones w) bs ≡ ones w
or-ones zero bs e = refl
or-ones (suc w) [] e = absurd (omega arith)
or-ones (suc w) (b ∷ bs) e = ap (λ s. true ∷ s) (or-ones w bs (omega arith))

pub ones-or : (w : ℕ) (bs : BitVector) → length bs ≡ w → bvor bs (ones w) ≡ ones w
ones-or zero [] e = refl
ones-or zero (b ∷ bs) e = absurd (omega arith)
ones-or (suc w) [] e = absurd (omega arith)
ones-or (suc w) (b ∷ bs) e = λ i. or_yes b i ∷ ones-or w bs (omega arith) i
  where
    or_yes : (b : Bool) → (b || true) ≡ true
    or_yes true = refl
    or_yes false = refl

pub or-itself : (bs : BitVector) → bvor bs bs ≡ bs
or-itself [] = refl
or-itself (true ∷ bs) = ap (λ s. true ∷ s) (or-itself bs)
or-itself (false ∷ bs) = ap (λ s. false ∷ s) (or-itself bs)

pub xor-itself : (bs : BitVector) → bvxor bs bs ≡ zeros (length bs)
xor-itself [] = refl
xor-itself (true ∷ bs) = ap (λ s. false ∷ s) (xor-itself bs)
xor-itself (false ∷ bs) = ap (λ s. false ∷ s) (xor-itself bs)

pub xor-zeros : (w : ℕ) (bs : BitVector) → length bs ≡ w → bvxor (zeros w) bs ≡ bs
xor-zeros zero [] e = refl
xor-zeros zero (b ∷ bs) e = absurd (omega arith)
xor-zeros (suc w) [] e = absurd (omega arith)
xor-zeros (suc w) (true ∷ bs) e = ap (λ s. true ∷ s) (xor-zeros w bs (omega arith))
xor-zeros (suc w) (false ∷ bs) e = ap (λ s. false ∷ s) (xor-zeros w bs (omega arith))

pub zeros-xor : (w : ℕ) (bs : BitVector) → length bs ≡ w → bvxor bs (zeros w) ≡ bs
zeros-xor zero [] e = refl
zeros-xor zero (b ∷ bs) e = absurd (omega arith)
zeros-xor (suc w) [] e = absurd (omega arith)
zeros-xor (suc w) (true ∷ bs) e = ap (λ s. true ∷ s) (zeros-xor w bs (omega arith))
zeros-xor (suc w) (false ∷ bs) e = ap (λ s. false ∷ s) (zeros-xor w bs (omega arith))

pub bvnot-twice : (bs : BitVector) → bvnot (bvnot bs) ≡ bs
bvnot-twice [] = refl
bvnot-twice (true ∷ bs) = ap (λ s. true ∷ s) (bvnot-twice bs)
bvnot-twice (false ∷ bs) = ap (λ s. false ∷ s) (bvnot-twice bs)

-- ---- arithmetic with a number that is 0 or 1

pub add-none : (s t : BitVector) → bv2nat t ≡ 0 → bvadd s t ≡ s
add-none s t e =
    let sum : bv2nat s + bv2nat t ≡ bv2nat s = omega arith in
    ap (nat2bv (length s)) sum ∙ nat2bv-bv2nat s

pub none-add : (s t : BitVector) → length t ≡ length s → bv2nat s ≡ 0 → bvadd s t ≡ t
none-add s t w e =
    let sum : bv2nat s + bv2nat t ≡ bv2nat t = omega arith in
    ap (nat2bv (length s)) sum ∙ at_width (length s) t w

pub sub-none : (s t : BitVector) → bv2nat t ≡ 0 → bvsub s t ≡ s
sub-none s t e =
    let sum : bv2nat s + (2 ^ length s - bv2nat t) ≡ bv2nat s + 2 ^ length s = omega arith in
    ap (nat2bv (length s)) sum ∙ nat2bv-modulo (length s) (bv2nat s) ∙ nat2bv-bv2nat s

pub sub-itself : (s : BitVector) → bvsub s s ≡ zeros (length s)
sub-itself s =
    let small : bv2nat s < 2 ^ length s = bv2nat-small s in
    let sum : bv2nat s + (2 ^ length s - bv2nat s) ≡ 2 ^ length s = omega arith in
    ap (nat2bv (length s)) sum ∙ nat2bv-power (length s)

pub mul-none : (s t : BitVector) → length t ≡ length s → bv2nat t ≡ 0 → bvmul s t ≡ t
mul-none s t w e =
    let product : bv2nat s * bv2nat t ≡ bv2nat t = ap (λ n. bv2nat s * n) e ∙ (omega arith) in
    ap (nat2bv (length s)) product ∙ at_width (length s) t w

pub none-mul : (s t : BitVector) → bv2nat s ≡ 0 → bvmul s t ≡ s
none-mul s t e =
    let product : bv2nat s * bv2nat t ≡ bv2nat s = ap (λ n. n * bv2nat t) e ∙ (omega arith) in
    ap (nat2bv (length s)) product ∙ nat2bv-bv2nat s

pub mul-one_bits : (s t : BitVector) → bv2nat t ≡ 1 → bvmul s t ≡ s
mul-one_bits s t e =
    let product : bv2nat s * bv2nat t ≡ bv2nat s = ap (λ n. bv2nat s * n) e ∙ mul-one (bv2nat s) in
    ap (nat2bv (length s)) product ∙ nat2bv-bv2nat s

pub one-mul_bits : (s t : BitVector) → length t ≡ length s → bv2nat s ≡ 1 → bvmul s t ≡ t
one-mul_bits s t w e =
    let product : bv2nat s * bv2nat t ≡ bv2nat t = ap (λ n. n * bv2nat t) e ∙ (omega arith) in
    ap (nat2bv (length s)) product ∙ at_width (length s) t w

pub udiv-none : (s t : BitVector) → bv2nat t ≡ 0 → bvudiv s t ≡ ones (length s)
udiv-none s t e = ap (λ n. cond (n == 0) (ones (length s)) (nat2bv (length s) (bv2nat s / n))) e

pub udiv-one : (s t : BitVector) → bv2nat t ≡ 1 → bvudiv s t ≡ s
udiv-one s t e = ap (λ n. cond (n == 0) (ones (length s)) (nat2bv (length s) (bv2nat s / n))) e ∙ ap (nat2bv (length s)) (div-one (bv2nat s)) ∙ nat2bv-bv2nat s

pub urem-none : (s t : BitVector) → bv2nat t ≡ 0 → bvurem s t ≡ s
urem-none s t e = ap (λ n. cond (n == 0) s (nat2bv (length s) (bv2nat s % n))) e

pub urem-one : (s t : BitVector) → bv2nat t ≡ 1 → bvurem s t ≡ zeros (length s)
urem-one s t e = ap (λ n. cond (n == 0) s (nat2bv (length s) (bv2nat s % n))) e ∙ ap (nat2bv (length s)) (mod-one (bv2nat s)) ∙ nat2bv-zero (length s)

-- ---- shifts by none

no_distance : (s t : BitVector) → bv2nat t ≡ 0 → distance s t ≡ 0
no_distance s t e = ap (min (length s)) e ∙ (omega arith)

pub shl-none : (s t : BitVector) → bv2nat t ≡ 0 → bvshl s t ≡ s
shl-none s t e =
    ap (λ n. nat2bv (length s) (bv2nat s * 2 ^ n)) (no_distance s t e) ∙ ap (nat2bv (length s)) (mul-one (bv2nat s)) ∙ nat2bv-bv2nat s

pub lshr-none : (s t : BitVector) → bv2nat t ≡ 0 → bvlshr s t ≡ s
lshr-none s t e =
    ap (λ n. nat2bv (length s) (bv2nat s / 2 ^ n)) (no_distance s t e) ∙ ap (nat2bv (length s)) (div-one (bv2nat s)) ∙ nat2bv-bv2nat s

pub ashr-none : (s t : BitVector) → bv2nat t ≡ 0 → bvashr s t ≡ s
ashr-none s t e = (λ i. cond (sign s) (bvnot (lshr-none (bvnot s) t e i)) (lshr-none s t e i)) ∙ either (sign s)
  where
    either : (b : Bool) → cond b (bvnot (bvnot s)) s ≡ s
    either true = bvnot-twice s
    either false = refl

-- ---- the minus of a minus

neg-none : (s : BitVector) → bv2nat s ≡ 0 → bvneg s ≡ s
neg-none s e =
    let difference : 2 ^ length s - bv2nat s ≡ 2 ^ length s = omega arith in
    ap (nat2bv (length s)) difference ∙ nat2bv-power (length s) ∙ sym (zero_bits s e)

neg-some : (s : BitVector) → 0 < bv2nat s → bvneg (bvneg s) ≡ s
neg-some s some =
    let small : bv2nat s < 2 ^ length s = bv2nat-small s in
    let less : 2 ^ length s - bv2nat s < 2 ^ length s = omega arith in
    let width : length (bvneg s) ≡ length s = length-nat2bv (length s) (2 ^ length s - bv2nat s) in
    let value : bv2nat (bvneg s) ≡ 2 ^ length s - bv2nat s = bv2nat-nat2bv (length s) (2 ^ length s - bv2nat s) less in
    let back : 2 ^ length s - (2 ^ length s - bv2nat s) ≡ bv2nat s = omega arith in
    (λ i. nat2bv (width i) (2 ^ width i - value i)) ∙ ap (nat2bv (length s)) back ∙ nat2bv-bv2nat s

pub bvneg-twice : (s : BitVector) → bvneg (bvneg s) ≡ s
bvneg-twice s = elim (true_or_false (bv2nat s == 0)) [
  | inl none ↦ let e : bv2nat s ≡ 0 = (Decides-eqb (bv2nat s) 0).0 none in ap bvneg (neg-none s e) ∙ neg-none s e
  | inr other ↦ let apart : bv2nat s ≡ 0 → ⊥ = not_from_Decides (bv2nat s == 0) (Decides-eqb (bv2nat s) 0) other in
      let some : 0 < bv2nat s = omega arith in neg-some s some
]

-- ---- all of the bits

pub extract-all : (high : ℕ) (s : BitVector) → length s ≡ suc high → extract high 0 s ≡ s
extract-all high s e = let all : high + 1 - 0 ≡ length s = omega arith in ap (λ k. take k s) all ∙ take-length s

pub zero_extend-none : (s : BitVector) → zero_extend 0 s ≡ s
zero_extend-none s = append-nil s

pub sign_extend-none : (s : BitVector) → sign_extend 0 s ≡ s
sign_extend-none s = append-nil s

pub rotate_left-none : (s : BitVector) → rotate_left 0 s ≡ s
rotate_left-none s = let all : length s - 0 ≡ length s = omega arith in ap (λ k. drop k s ++ take k s) all ∙ (λ i. drop-length s i ++ take-length s i)

pub rotate_right-none : (s : BitVector) → rotate_right 0 s ≡ s
rotate_right-none s = append-nil s
