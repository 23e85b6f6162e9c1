-- Operators on words, against their values on bits.
use Rattle.std.proofs.Common.{◌≡◌, ℕ, zero, suc, ◌+◌, ◌-◌, ◌*◌, ◌/◌, ◌%◌, ◌^◌, ◌<◌, ◌≤◌, nat_lt, nat_le, Bool, true, false, cond, not, ◌&&◌, ◌||◌, ◌==◌, [], ◌∷◌, ◌++◌, length, take, drop, replicate, refl, ap, sym, ◌∙◌, subst, arith, min, true≢false}
use Rattle.std.specs.Bool.{beq}
use Rattle.std.proofs.Common.{length-drop}
use Rattle.std.specs.Prelude.{bit_and, bit_or, bit_xor}
use Rattle.std.proofs.Math.Nat.{pow-succ', mul-add-mod_self_right, div-eq_of_lt}
use Rattle.std.proofs.lemmas.Nat.{pow_pos, mod-pow-add, mod_below, mod-mul-add, and_shr, or_shr, xor_shr, and_mod, or_mod, xor_mod, shr-shr, pow-add}
use Rattle.std.proofs.lemmas.Bool.Decides.{Decides-eqb}
use Rattle.smt_terms.specs.BitVectors.{BitVector, bv2nat, nat2bv, bvand, bvor, bvxor, bvnot, bvneg, bvsub, bvadd, bvmul, bvudiv, bvurem, zeros, ones, extract, zero_extend, sign_extend, sign, distance, bvshl, bvlshr, bvult, bvule, concat, rotate_left, rotate_right}
use Rattle.smt_terms.proofs.BitLengths.{length-nat2bv}
use Rattle.smt_values.proofs.Bits.{bv2nat-word, nat2bv-mod}

-- ---- a word's arithmetic modulo 2 ^ 128 is that modulo 2 ^ width

mod_narrower : (w k n : ℕ) → n % 2 ^ (k + w) % 2 ^ w ≡ n % 2 ^ w
mod_narrower w k n = ap (λ m. m % 2 ^ w) (mod-pow-add n k w) ∙ mod-mul-add (n / 2 ^ w % 2 ^ k) (2 ^ w) (n % 2 ^ w) (mod_below n (2 ^ w) (pow_pos w))

pub nat2bv-wrapped : (w n : ℕ) → w ≤ 128 → nat2bv w (n % 2 ^ 128) ≡ nat2bv w n
nat2bv-wrapped w n le =
    let split : 128 - w + w ≡ 128 = omega arith in
    sym (nat2bv-mod w (n % 2 ^ 128)) ∙ ap (nat2bv w) (sym (ap (λ k. n % 2 ^ k % 2 ^ w) split) ∙ mod_narrower w (128 - w) n) ∙ nat2bv-mod w n

suc_times : (p q : ℕ) → suc p * q ≡ p * q + q
suc_times p q = grind arith

doubled : (m p q : ℕ) → q ≡ 2 * p → m * q ≡ 2 * (m * p)
doubled m p q e = ap (λ k. m * k) e ∙ grind arith

halves : (j n : ℕ) → n / 2 / 2 ^ j ≡ n / 2 ^ suc j
halves j n = shr-shr n 1 j ∙ ap (λ k. n / 2 ^ k) (let e : 1 + j ≡ suc j = omega arith in e)

add-mod_multiple : (k p n : ℕ) → 0 < p → (k * p + n) % p ≡ n % p
add-mod_multiple k p n some = mul-add-mod_self_right k p n

less_one : (p q : ℕ) → 0 < p → (p - 1) * q + q ≡ p * q
less_one zero q h = absurd (omega arith)
less_one (suc p) q h = let e : suc p - 1 ≡ p = omega arith in ap (λ k. k * q + q) e ∙ sym (suc_times p q)

-- what is left of 2 ^ 128, as a multiple of 2 ^ width and the rest
pub below_word : (w n : ℕ) → w ≤ 128 → n < 2 ^ w → 2 ^ 128 - n ≡ (2 ^ (128 - w) - 1) * 2 ^ w + (2 ^ w - n)
below_word w n le b =
    let width : 128 - w + w ≡ 128 = omega arith in
    let whole : 2 ^ (128 - w) * 2 ^ w ≡ 2 ^ 128 = sym (pow-add 2 (128 - w) w) ∙ ap (λ k. 2 ^ k) width in
    let less = less_one (2 ^ (128 - w)) (2 ^ w) (pow_pos (128 - w)) in
    omega (arith, whole, less)

-- ---- bit by bit

and_bit : (m n : ℕ) → m < 2 → n < 2 → (bit_and m n == 1) ≡ ((m == 1) && (n == 1))
and_bit zero n a b = refl
and_bit (suc zero) zero a b = refl
and_bit (suc zero) (suc zero) a b = refl
and_bit (suc zero) (suc (suc n)) a b = absurd (omega arith)
and_bit (suc (suc m)) n a b = absurd (omega arith)

or_bit : (m n : ℕ) → m < 2 → n < 2 → (bit_or m n == 1) ≡ ((m == 1) || (n == 1))
or_bit zero zero a b = refl
or_bit zero (suc zero) a b = refl
or_bit zero (suc (suc n)) a b = absurd (omega arith)
or_bit (suc zero) zero a b = refl
or_bit (suc zero) (suc zero) a b = refl
or_bit (suc zero) (suc (suc n)) a b = absurd (omega arith)
or_bit (suc (suc m)) n a b = absurd (omega arith)

xor_bit : (m n : ℕ) → m < 2 → n < 2 → (bit_xor m n == 1) ≡ not (beq (m == 1) (n == 1))
xor_bit zero zero a b = refl
xor_bit zero (suc zero) a b = refl
xor_bit zero (suc (suc n)) a b = absurd (omega arith)
xor_bit (suc zero) zero a b = refl
xor_bit (suc zero) (suc zero) a b = refl
xor_bit (suc zero) (suc (suc n)) a b = absurd (omega arith)
xor_bit (suc (suc m)) n a b = absurd (omega arith)

half_below : (n : ℕ) → n % 2 < 2
half_below n = omega arith

pub nat2bv-and : (w m n : ℕ) → nat2bv w (bit_and m n) ≡ bvand (nat2bv w m) (nat2bv w n)
nat2bv-and zero m n = refl
nat2bv-and (suc w) m n = λ i.
    (ap (λ k. k == 1) (and_mod m n 1) ∙ and_bit (m % 2) (n % 2) (half_below m) (half_below n)) i ∷ (ap (nat2bv w) (and_shr m n 1) ∙ nat2bv-and w (m / 2) (n / 2)) i

pub nat2bv-or : (w m n : ℕ) → nat2bv w (bit_or m n) ≡ bvor (nat2bv w m) (nat2bv w n)
nat2bv-or zero m n = refl
nat2bv-or (suc w) m n = λ i.
    (ap (λ k. k == 1) (or_mod m n 1) ∙ or_bit (m % 2) (n % 2) (half_below m) (half_below n)) i ∷ (ap (nat2bv w) (or_shr m n 1) ∙ nat2bv-or w (m / 2) (n / 2)) i

pub nat2bv-xor : (w m n : ℕ) → nat2bv w (bit_xor m n) ≡ bvxor (nat2bv w m) (nat2bv w n)
nat2bv-xor zero m n = refl
nat2bv-xor (suc w) m n = λ i.
    (ap (λ k. k == 1) (xor_mod m n 1) ∙ xor_bit (m % 2) (n % 2) (half_below m) (half_below n)) i ∷ (ap (nat2bv w) (xor_shr m n 1) ∙ nat2bv-xor w (m / 2) (n / 2)) i

-- ---- arithmetic

pub bvadd-words : (w m n : ℕ) → w ≤ 128 → m < 2 ^ w → n < 2 ^ w → nat2bv w ((m + n) % 2 ^ 128) ≡ bvadd (nat2bv w m) (nat2bv w n)
bvadd-words w m n le a b =
    nat2bv-wrapped w (m + n) le
    ∙ sym (λ i. nat2bv (length-nat2bv w m i) (bv2nat-word w m a i + bv2nat-word w n b i))

pub bvmul-words : (w m n : ℕ) → w ≤ 128 → m < 2 ^ w → n < 2 ^ w → nat2bv w ((m * n) % 2 ^ 128) ≡ bvmul (nat2bv w m) (nat2bv w n)
bvmul-words w m n le a b =
    nat2bv-wrapped w (m * n) le
    ∙ sym (λ i. nat2bv (length-nat2bv w m i) (bv2nat-word w m a i * bv2nat-word w n b i))

-- a multiple of 2 ^ width more changes no bit
pub nat2bv-shifted : (w n k : ℕ) → nat2bv w (k * 2 ^ w + n) ≡ nat2bv w n
nat2bv-shifted w n k =
    sym (nat2bv-mod w (k * 2 ^ w + n)) ∙ ap (nat2bv w) (add-mod_multiple k (2 ^ w) n (pow_pos w)) ∙ nat2bv-mod w n

pub bvneg-words : (w n : ℕ) → w ≤ 128 → n < 2 ^ w → nat2bv w ((2 ^ 128 - n) % 2 ^ 128) ≡ bvneg (nat2bv w n)
bvneg-words w n le b =
    nat2bv-wrapped w (2 ^ 128 - n) le ∙ ap (nat2bv w) (below_word w n le b) ∙ nat2bv-shifted w (2 ^ w - n) (2 ^ (128 - w) - 1)
    ∙ sym (λ i. nat2bv (length-nat2bv w n i) (2 ^ length-nat2bv w n i - bv2nat-word w n b i))

pub bvsub-words : (w m n : ℕ) → w ≤ 128 → m < 2 ^ w → n < 2 ^ w → nat2bv w ((m + (2 ^ 128 - n)) % 2 ^ 128) ≡ bvsub (nat2bv w m) (nat2bv w n)
bvsub-words w m n le a b =
    let rest = below_word w n le b in
    let same : m + (2 ^ 128 - n) ≡ (2 ^ (128 - w) - 1) * 2 ^ w + (m + (2 ^ w - n)) = omega (arith, rest) in
    nat2bv-wrapped w (m + (2 ^ 128 - n)) le ∙ ap (nat2bv w) same ∙ nat2bv-shifted w (m + (2 ^ w - n)) (2 ^ (128 - w) - 1)
    ∙ sym (λ i. nat2bv (length-nat2bv w m i) (bv2nat-word w m a i + (2 ^ length-nat2bv w m i - bv2nat-word w n b i)))

-- ---- parts

pub zero_word : (w : ℕ) → nat2bv w 0 ≡ zeros w
zero_word zero = refl
zero_word (suc w) = ap (λ bs. false ∷ bs) (zero_word w)

double_bit : (m n : ℕ) → ((2 * m + n) % 2 == 1) ≡ (n % 2 == 1)
double_bit m n = let e : (2 * m + n) % 2 ≡ n % 2 = omega arith in ap (λ k. k == 1) e

-- a word over another: the low bits come first
pub concat-words : (v w m n : ℕ) → n < 2 ^ v → nat2bv (v + w) (m * 2 ^ v + n) ≡ nat2bv v n ++ nat2bv w m
concat-words zero w m n b =
    let none : n ≡ 0 = omega arith in
    let width : 0 + w ≡ w = omega arith in
    let whole : m * 1 + n ≡ m = omega arith in
    λ i. nat2bv (width i) (whole i)
concat-words (suc v) w m n b =
    let width : suc v + w ≡ suc (v + w) = omega arith in
    let power : 2 ^ suc v ≡ 2 * 2 ^ v = pow-succ' 2 v in
    let product : m * 2 ^ suc v ≡ 2 * (m * 2 ^ v) = doubled m (2 ^ v) (2 ^ suc v) power in
    let bit : ((m * 2 ^ suc v + n) % 2 == 1) ≡ (n % 2 == 1) = ap (λ k. (k + n) % 2 == 1) product ∙ double_bit (m * 2 ^ v) n in
    let half : (m * 2 ^ suc v + n) / 2 ≡ m * 2 ^ v + n / 2 = omega (arith, product) in
    let below : n / 2 < 2 ^ v = omega (arith, power) in
    ap (λ k. nat2bv k (m * 2 ^ suc v + n)) width
    ∙ (λ i. bit i ∷ (ap (nat2bv (v + w)) half ∙ concat-words v w m (n / 2) below) i)

-- the bits from place j on
pub drop-words : (j w n : ℕ) → drop j (nat2bv (j + w) n) ≡ nat2bv w (n / 2 ^ j)
drop-words zero w n =
    let width : 0 + w ≡ w = omega arith in
    let whole : n ≡ n / 1 = omega arith in
    λ i. nat2bv (width i) (whole i)
drop-words (suc j) w n =
    let width : suc j + w ≡ suc (j + w) = omega arith in
    ap (λ k. drop (suc j) (nat2bv k n)) width ∙ drop-words j w (n / 2) ∙ ap (nat2bv w) (halves j n)

-- the lowest k bits
pub take-words : (k w n : ℕ) → take k (nat2bv (k + w) n) ≡ nat2bv k n
take-words zero w n = refl
take-words (suc k) w n =
    let width : suc k + w ≡ suc (k + w) = omega arith in
    ap (λ m. take (suc k) (nat2bv m n)) width ∙ ap (λ bs. (n % 2 == 1) ∷ bs) (take-words k w (n / 2))

pub extract-words : (high low w n : ℕ) → low ≤ high → high < w → nat2bv (high - low + 1) (n / 2 ^ low) ≡ extract high low (nat2bv w n)
extract-words high low w n order below =
    let rest : low + (w - low) ≡ w = omega arith in
    let count : high + 1 - low ≡ high - low + 1 = omega arith in
    let split : high - low + 1 + (w - low - (high - low + 1)) ≡ w - low = omega arith in
    sym (
    ap (λ k. take k (drop low (nat2bv w n))) count
    ∙ ap (λ k. take (high - low + 1) (drop low (nat2bv k n))) (sym rest)
    ∙ ap (take (high - low + 1)) (drop-words low (w - low) n)
    ∙ ap (λ k. take (high - low + 1) (nat2bv k (n / 2 ^ low))) (sym split)
    ∙ take-words (high - low + 1) (w - low - (high - low + 1)) (n / 2 ^ low))

pub zero_extend-words : (i w n : ℕ) → n < 2 ^ w → nat2bv (w + i) n ≡ zero_extend i (nat2bv w n)
zero_extend-words i w n b =
    let whole : n ≡ 0 * 2 ^ w + n = omega arith in
    ap (nat2bv (w + i)) whole ∙ concat-words w i 0 n b ∙ ap (λ bs. nat2bv w n ++ bs) (zero_word i)

-- ---- complements

flipped_bit : (p n : ℕ) → n < 2 * p → ((2 * p - 1 - n) % 2 == 1) ≡ not (n % 2 == 1)
flipped_bit p n b = by (n % 2 == 1) refl
  where
    by : (c : Bool) → (n % 2 == 1) ≡ c → ((2 * p - 1 - n) % 2 == 1) ≡ not c
    by true e = let odd : n % 2 ≡ 1 = (Decides-eqb (n % 2) 1).0 e in let k : (2 * p - 1 - n) % 2 ≡ 0 = omega arith in ap (λ m. m == 1) k
    by false e =
        let apart : n % 2 ≡ 1 → ⊥ = λ h. true≢false (sym ((Decides-eqb (n % 2) 1).1 h) ∙ e) in
        let even : n % 2 ≡ 0 = omega arith in let k : (2 * p - 1 - n) % 2 ≡ 1 = omega arith in ap (λ m. m == 1) k

-- all bits of a longer word are turned
pub not_longer : (k w n : ℕ) → n < 2 ^ (w + k) → nat2bv w (2 ^ (w + k) - 1 - n) ≡ bvnot (nat2bv w n)
not_longer k zero n b = refl
not_longer k (suc w) n b =
    let width : suc w + k ≡ suc (w + k) = omega arith in
    let power : 2 ^ (suc w + k) ≡ 2 * 2 ^ (w + k) = ap (λ m. 2 ^ m) width ∙ pow-succ' 2 (w + k) in
    let below : n < 2 * 2 ^ (w + k) = omega (arith, power) in
    let half : (2 ^ (suc w + k) - 1 - n) / 2 ≡ 2 ^ (w + k) - 1 - n / 2 = omega (arith, power) in
    let rest : n / 2 < 2 ^ (w + k) = omega arith in
    λ i. (ap (λ p. (p - 1 - n) % 2 == 1) power ∙ flipped_bit (2 ^ (w + k)) n below) i ∷ (ap (nat2bv w) half ∙ not_longer k w (n / 2) rest) i

pub bvnot-words : (w n : ℕ) → w ≤ 128 → n < 2 ^ 128 → nat2bv w (2 ^ 128 - 1 - n) ≡ bvnot (nat2bv w n)
bvnot-words w n le b =
    let width : w + (128 - w) ≡ 128 = omega arith in
    let below : n < 2 ^ (w + (128 - w)) = subst (λ k. n < 2 ^ k) (sym width) b in
    ap (λ k. nat2bv w (2 ^ k - 1 - n)) (sym width) ∙ not_longer (128 - w) w n below

not_zeros : (w : ℕ) → bvnot (zeros w) ≡ ones w
not_zeros zero = refl
not_zeros (suc w) = ap (λ bs. true ∷ bs) (not_zeros w)

pub ones-words : (w : ℕ) → w ≤ 128 → nat2bv w (2 ^ 128 - 1) ≡ ones w
ones-words w le = bvnot-words w 0 le (pow_pos 128) ∙ ap bvnot (zero_word w) ∙ not_zeros w

-- ---- division, and shifts by less than the width

pub bvudiv-words : (w m n : ℕ) → m < 2 ^ w → n < 2 ^ w → (n == 0) ≡ false → nat2bv w (m / n) ≡ bvudiv (nat2bv w m) (nat2bv w n)
bvudiv-words w m n a b h =
    sym ((λ i. cond (bv2nat-word w n b i == 0) (ones (length-nat2bv w m i)) (nat2bv (length-nat2bv w m i) (bv2nat-word w m a i / bv2nat-word w n b i)))
    ∙ ap (λ c. cond c (ones w) (nat2bv w (m / n))) h)

pub bvurem-words : (w m n : ℕ) → m < 2 ^ w → n < 2 ^ w → (n == 0) ≡ false → nat2bv w (m % n) ≡ bvurem (nat2bv w m) (nat2bv w n)
bvurem-words w m n a b h =
    sym ((λ i. cond (bv2nat-word w n b i == 0) (nat2bv w m) (nat2bv (length-nat2bv w m i) (bv2nat-word w m a i % bv2nat-word w n b i)))
    ∙ ap (λ c. cond c (nat2bv w m) (nat2bv w (m % n))) h)

-- by zero
pub bvudiv-zero : (w m n : ℕ) → n ≡ 0 → w ≤ 128 → nat2bv w (2 ^ 128 - 1) ≡ bvudiv (nat2bv w m) (nat2bv w n)
bvudiv-zero w m n h le =
    let some = pow_pos w in
    let zero_is : bv2nat (nat2bv w n) ≡ 0 = ap (λ k. bv2nat (nat2bv w k)) h ∙ bv2nat-word w 0 some in
    ones-words w le ∙ sym (ap (λ k. cond (k == 0) (ones (length (nat2bv w m))) (nat2bv (length (nat2bv w m)) (bv2nat (nat2bv w m) / k))) zero_is ∙ ap ones (length-nat2bv w m))

pub bvurem-zero : (w m n : ℕ) → n ≡ 0 → nat2bv w m ≡ bvurem (nat2bv w m) (nat2bv w n)
bvurem-zero w m n h =
    let some = pow_pos w in
    let zero_is : bv2nat (nat2bv w n) ≡ 0 = ap (λ k. bv2nat (nat2bv w k)) h ∙ bv2nat-word w 0 some in
    sym (ap (λ k. cond (k == 0) (nat2bv w m) (nat2bv (length (nat2bv w m)) (bv2nat (nat2bv w m) % k))) zero_is)

-- the distance of a shift, where t is a word of any width
distance_is : (w m v n : ℕ) → n < 2 ^ v → distance (nat2bv w m) (nat2bv v n) ≡ min w n
distance_is w m v n b = λ i. min (length-nat2bv w m i) (bv2nat-word v n b i)

pub bvshl-words : (w m v n : ℕ) → w ≤ 128 → m < 2 ^ w → n < 2 ^ v → n < w → nat2bv w ((m * 2 ^ n) % 2 ^ 128) ≡ bvshl (nat2bv w m) (nat2bv v n)
bvshl-words w m v n le a b lt =
    let near : min w n ≡ n = omega arith in
    nat2bv-wrapped w (m * 2 ^ n) le
    ∙ sym (λ i. nat2bv (length-nat2bv w m i) (bv2nat-word w m a i * 2 ^ (distance_is w m v n b ∙ near) i))

pub bvlshr-words : (w m v n : ℕ) → m < 2 ^ w → n < 2 ^ v → n < w → nat2bv w (m / 2 ^ n) ≡ bvlshr (nat2bv w m) (nat2bv v n)
bvlshr-words w m v n a b lt =
    let near : min w n ≡ n = omega arith in
    sym (λ i. nat2bv (length-nat2bv w m i) (bv2nat-word w m a i / 2 ^ (distance_is w m v n b ∙ near) i))

-- a shift by the width or more moves every bit out
pub bvshl-out : (w m v n : ℕ) → m < 2 ^ w → n < 2 ^ v → w ≤ n → nat2bv w 0 ≡ bvshl (nat2bv w m) (nat2bv v n)
bvshl-out w m v n a b le =
    let far : min w n ≡ w = omega arith in
    let none : m * 2 ^ w + 0 ≡ m * 2 ^ w = omega arith in
    sym (nat2bv-shifted w 0 m) ∙ ap (nat2bv w) none ∙ sym (λ i. nat2bv (length-nat2bv w m i) (bv2nat-word w m a i * 2 ^ (distance_is w m v n b ∙ far) i))

pub bvlshr-out : (w m v n : ℕ) → m < 2 ^ w → n < 2 ^ v → w ≤ n → nat2bv w 0 ≡ bvlshr (nat2bv w m) (nat2bv v n)
bvlshr-out w m v n a b le =
    let far : min w n ≡ w = omega arith in
    ap (nat2bv w) (sym (div-eq_of_lt a)) ∙ sym (λ i. nat2bv (length-nat2bv w m i) (bv2nat-word w m a i / 2 ^ (distance_is w m v n b ∙ far) i))

-- ---- comparisons

pub bvult-words : (v w m n : ℕ) → m < 2 ^ v → n < 2 ^ w → nat_lt m n ≡ bvult (nat2bv v m) (nat2bv w n)
bvult-words v w m n a b = sym (λ i. nat_lt (bv2nat-word v m a i) (bv2nat-word w n b i))

pub bvule-words : (v w m n : ℕ) → m < 2 ^ v → n < 2 ^ w → nat_le m n ≡ bvule (nat2bv v m) (nat2bv w n)
bvule-words v w m n a b = sym (λ i. nat_le (bv2nat-word v m a i) (bv2nat-word w n b i))

-- ---- the sign

pub sign-word : (w n : ℕ) → sign (nat2bv (suc w) n) ≡ (n / 2 ^ w % 2 == 1)
sign-word zero n = let whole : n ≡ n / 1 = omega arith in ap (λ k. k % 2 == 1) whole
sign-word (suc w) n = sign-word w (n / 2) ∙ ap (λ k. k % 2 == 1) (halves w n)

-- copies of the sign go in front: of a negative word, its complement is extended by zeros
copies_not : (i : ℕ) → bvnot (zeros i) ≡ replicate i true
copies_not zero = refl
copies_not (suc i) = ap (λ bs. true ∷ bs) (copies_not i)

not_append : (s t : BitVector) → bvnot (s ++ t) ≡ bvnot s ++ bvnot t
not_append [] t = refl
not_append (b ∷ s) t = ap (λ bs. not b ∷ bs) (not_append s t)

not_not : (s : BitVector) → bvnot (bvnot s) ≡ s
not_not [] = refl
not_not (true ∷ s) = ap (λ bs. true ∷ bs) (not_not s)
not_not (false ∷ s) = ap (λ bs. false ∷ bs) (not_not s)

pub sign_extend-negative : (i : ℕ) (s : BitVector) → sign s ≡ true → bvnot (zero_extend i (bvnot s)) ≡ sign_extend i s
sign_extend-negative i s h =
    not_append (bvnot s) (zeros i) ∙ (λ j. not_not s j ++ (copies_not i ∙ ap (replicate i) (sym h)) j)

-- ---- rotations: a part of the word, and the other part behind it

take_whole : (xs : BitVector) (k : ℕ) → length xs ≡ k → take k xs ≡ xs
take_whole [] zero e = refl
take_whole [] (suc k) e = refl
take_whole (x ∷ xs) zero e = absurd (omega arith)
take_whole (x ∷ xs) (suc k) e = let e' : length xs ≡ k = omega arith in ap (λ ys. x ∷ ys) (take_whole xs k e')

pub rotate_left-parts : (i w : ℕ) (s : BitVector) → length s ≡ w → 0 < i → i < w → concat (extract (w - i - 1) 0 s) (extract (w - 1) (w - i) s) ≡ rotate_left i s
rotate_left-parts i w s wide some lt =
    let low : w - 1 + 1 - (w - i) ≡ i = omega arith in
    let high : w - i - 1 + 1 - 0 ≡ w - i = omega arith in
    let left : length (drop (w - i) s) ≡ i = omega (arith, length-drop (w - i) s) in
    let place : w - i ≡ length s - i = omega arith in
    let top : take (w - 1 + 1 - (w - i)) (drop (w - i) s) ≡ drop (length s - i) s = ap (λ k. take k (drop (w - i) s)) low ∙ take_whole (drop (w - i) s) i left ∙ ap (λ k. drop k s) place in
    let rest : take (w - i - 1 + 1 - 0) s ≡ take (length s - i) s = ap (λ k. take k s) (high ∙ place) in
    λ j. top j ++ rest j

pub rotate_right-parts : (i w : ℕ) (s : BitVector) → length s ≡ w → 0 < i → i < w → concat (extract (i - 1) 0 s) (extract (w - 1) i s) ≡ rotate_right i s
rotate_right-parts i w s wide some lt =
    let low : w - 1 + 1 - i ≡ w - i = omega arith in
    let high : i - 1 + 1 - 0 ≡ i = omega arith in
    let left : length (drop i s) ≡ w - i = omega (arith, length-drop i s) in
    let top : take (w - 1 + 1 - i) (drop i s) ≡ drop i s = ap (λ k. take k (drop i s)) low ∙ take_whole (drop i s) (w - i) left in
    let rest : take (i - 1 + 1 - 0) s ≡ take i s = ap (λ k. take k s) high in
    λ j. top j ++ rest j
