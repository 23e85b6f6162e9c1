-- The operators on words as they are computed, against their values on bits.
use Rattle.std.proofs.Common.{◌≡◌, ℕ, zero, suc, ◌+◌, ◌-◌, ◌*◌, ◌/◌, ◌%◌, ◌^◌, ◌<◌, ◌≤◌, zero-add, Bool, true, false, cond, ◌==◌, [], ◌∷◌, length, refl, ap, sym, ◌∙◌, subst, arith, true≢false}
use Rattle.std.specs.Prelude.{bit_and, bit_or, ℤ, pos, negsuc, ◌-ℤ◌, neg_ℤ, unsigned_abs, int_div}
use Rattle.std.specs.Int.{w128, cast_unsigned, cast_signed, int_wrapping_div, IsNonZero, from_bool}
use mir.Val.{SFits}
use Rattle.std.proofs.lemmas.Int.{ints, of_z-to_z, to_z-of_z, to_z_pos}
use Rattle.std.proofs.lemmas.Bool.Decides.{nat_tests, Decides-eqb}
use Rattle.std.proofs.lemmas.Nat.{and_mask, or_shifted, shl_whole, pow-add, pow_pos, mul-add-lt, mod-mul-add, mod_below, div_below}
use Rattle.std.proofs.lemmas.Nat.Bits.{ones_shr}
use Rattle.std.proofs.Math.Nat.{pow-le-pow_right, pow-succ', mod-eq_of_lt, div-le_self}
use Rattle.smt_terms.specs.BitVectors.{BitVector, nat2bv, bv2nat, bv2int, int2bv, sign, concat, bvnot, bvneg, bits_eq, bvcomp, bvshl, bvlshr, ones, bvsdiv, zero_extend, sign_extend}
use Rattle.smt_terms.proofs.BitLengths.{length-nat2bv}
use Rattle.smt_terms.proofs.Same.{Decides-bits_eq}
use Rattle.smt_terms.proofs.Tests.{alike_from}
use Rattle.smt_values.proofs.Bits.{bv2nat-word, nat2bv-mod, nat2bv_one}
use Rattle.smt_values.proofs.Words.{below_word, concat-words, bvnot-words, bvneg-words, not_longer, sign-word, bvshl-words, bvlshr-words, ones-words, sign_extend-negative}

pub at_width : (v w n : ℕ) → v ≡ w → n < 2 ^ v → n < 2 ^ w
at_width v w n e b = subst (λ k. n < 2 ^ k) e b

-- the mask of a width
pub masked : (w n : ℕ) → w ≤ 128 → bit_and n (340282366920938463463374607431768211455 / 2 ^ (128 - w)) ≡ n % 2 ^ w
masked w n le =
    let place : 128 - w ≤ 128 = omega arith in
    let width : 128 - (128 - w) ≡ w = omega arith in
    ap (bit_and n) (ones_shr 128 (128 - w) place ∙ ap (λ k. 2 ^ k - 1) width) ∙ and_mask n w

pub masked_below : (w n : ℕ) → w ≤ 128 → bit_and n (340282366920938463463374607431768211455 / 2 ^ (128 - w)) < 2 ^ w
masked_below w n le = subst (λ k. k < 2 ^ w) (sym (masked w n le)) (mod_below n (2 ^ w) (pow_pos w))

pub not_zero : (n : ℕ) → (n ≡ 0 → ⊥) → (n == 0) ≡ false
not_zero zero h = absurd (h refl)
not_zero (suc n) h = grind (arith, nat_tests)

-- ---- parts

pub joined : (v w m n : ℕ) → w + v ≤ 128 → m < 2 ^ w → n < 2 ^ v → bit_or (m * 2 ^ v % 340282366920938463463374607431768211456) n ≡ m * 2 ^ v + n
joined v w m n le a b = ap (λ k. bit_or k n) (shl_whole m w v 128 a le) ∙ or_shifted m v n b

pub joined_below : (v w m n : ℕ) → w + v ≤ 128 → m < 2 ^ w → n < 2 ^ v → bit_or (m * 2 ^ v % 340282366920938463463374607431768211456) n < 2 ^ (w + v)
joined_below v w m n le a b =
    let order : v + w ≡ w + v = omega arith in
    let whole : 2 ^ v * 2 ^ w ≡ 2 ^ (w + v) = sym (pow-add 2 v w) ∙ ap (λ k. 2 ^ k) order in
    let below : m * 2 ^ v + n < 2 ^ (w + v) = subst (λ k. m * 2 ^ v + n < k) whole (mul-add-lt m (2 ^ v) n (2 ^ w) a b) in
    subst (λ k. k < 2 ^ (w + v)) (sym (joined v w m n le a b)) below

pub joined_bits : (v w m n : ℕ) → w + v ≤ 128 → m < 2 ^ w → n < 2 ^ v → nat2bv (w + v) (bit_or (m * 2 ^ v % 340282366920938463463374607431768211456) n) ≡ concat (nat2bv w m) (nat2bv v n)
joined_bits v w m n le a b =
    let order : w + v ≡ v + w = omega arith in
    ap (nat2bv (w + v)) (joined v w m n le a b) ∙ ap (λ k. nat2bv k (m * 2 ^ v + n)) order ∙ concat-words v w m n b

pub longer : (w i n : ℕ) → n < 2 ^ w → n < 2 ^ (w + i)
longer w i n b =
    let some : zero < 2 = omega arith in
    let le : w ≤ w + i = omega arith in
    omega (arith, pow-le-pow_right some le)

-- ---- comparison for equality

comp_word : (w m n : ℕ) → m < 2 ^ w → n < 2 ^ w → ◌≡◌ {A = BitVector} ((m == n) ∷ []) (bvcomp (nat2bv w m) (nat2bv w n))
comp_word w m n a b =
    ap (λ c. c ∷ []) (alike_from (m == n) (bits_eq (nat2bv w m) (nat2bv w n))
    (λ h. (Decides-bits_eq (nat2bv w m) (nat2bv w n)).1 (ap (nat2bv w) ((Decides-eqb m n).0 h)))
    (λ h. (Decides-eqb m n).1 (nat2bv_one w m n a b ((Decides-bits_eq (nat2bv w m) (nat2bv w n)).0 h))))

-- ---- the sign

top_below : (w n : ℕ) → n < 2 ^ suc w → n / 2 ^ w < 2
top_below w n b = let below : n < 2 * 2 ^ w = omega (arith, pow-succ' 2 w) in div_below n (2 ^ w) 2 (pow_pos w) below

pub sign_bit : (w n : ℕ) → 1 ≤ w → n < 2 ^ w → (n / 2 ^ (w - 1) == 1) ≡ sign (nat2bv w n)
sign_bit zero n some b = absurd (omega arith)
sign_bit (suc w) n some b =
    let less : suc w - 1 ≡ w = omega arith in
    let top = top_below w n b in
    ap (λ k. n / 2 ^ k == 1) less ∙ ap (λ k. k == 1) (sym (mod-eq_of_lt top)) ∙ sym (sign-word w n)

-- the highest bit splits the numbers of a width in two halves
top_set : (p q n : ℕ) → p ≡ 2 * q → 0 < q → n / q ≡ 1 → p - 1 - n < q
top_set p q n e some h =
    let whole : q * (n / q) + n % q ≡ n = omega arith in
    let one : q * (n / q) ≡ q = ap (λ k. q * k) h ∙ (let e : q * 1 ≡ q = omega arith in e) in
    omega (arith, one)

none_left : (q n k : ℕ) → 0 < q → q * k + n % q ≡ n → k < 2 → (k ≡ 1 → ⊥) → n < q
none_left q n zero some whole lt h = let rest = mod_below n q some in omega arith
none_left q n (suc zero) some whole lt h = absurd (h refl)
none_left q n (suc (suc k)) some whole lt h = absurd (omega arith)

top_clear : (p q n : ℕ) → p ≡ 2 * q → 0 < q → n < p → (n / q == 1) ≡ false → n < q
top_clear p q n e some b h =
    let below : n < 2 * q = omega arith in
    let whole : q * (n / q) + n % q ≡ n = omega arith in
    none_left q n (n / q) some whole (div_below n q 2 some below) (λ one. true≢false (sym ((Decides-eqb (n / q) 1).1 one) ∙ h))

-- half of the numbers of a width
pub twice_half : (w : ℕ) → 1 ≤ w → 2 ^ w ≡ 2 * 2 ^ (w - 1)
twice_half zero some = absurd (omega arith)
twice_half (suc w) some = let less : w ≡ suc w - 1 = omega arith in pow-succ' 2 w ∙ ap (λ k. 2 * 2 ^ k) less

half_narrow : (w : ℕ) → w ≤ 128 → 2 ^ (w - 1) ≤ 2 ^ 127
half_narrow w le =
    let some : zero < 2 = omega arith in
    let below : w - 1 ≤ 127 = omega arith in
    pow-le-pow_right some below

pub below_half : (w n : ℕ) → w ≤ 128 → 1 ≤ w → n < 2 ^ w → sign (nat2bv w n) ≡ false → n < 2 ^ 127
below_half w n le some b h =
    let half : n < 2 ^ (w - 1) = top_clear (2 ^ w) (2 ^ (w - 1)) n (twice_half w some) (pow_pos (w - 1)) b (sign_bit w n some b ∙ h) in
    omega (arith, half, half_narrow w le)

pub complement_below_half : (w n r : ℕ) → w ≤ 128 → 1 ≤ w → n < 2 ^ w → sign (nat2bv w n) ≡ true → r ≡ 2 ^ w - 1 - n → r < 2 ^ 127
complement_below_half w n r le some b h e =
    let half : 2 ^ w - 1 - n < 2 ^ (w - 1) = top_set (2 ^ w) (2 ^ (w - 1)) n (twice_half w some) (pow_pos (w - 1)) ((Decides-eqb (n / 2 ^ (w - 1)) 1).0 (sign_bit w n some b ∙ h)) in
    omega (arith, half, half_narrow w le)

-- the number in two's complement
from_complement : (p n r : ℕ) → n < p → r ≡ p - 1 - n → r < 2 ^ 127 → cast_signed w128 (2 ^ 128 - 1 - r) ≡ pos n -ℤ pos p
from_complement p n r b e lt =
    let bits : 2 ^ 128 - 1 - r ≡ cast_unsigned w128 (negsuc r) = omega arith in
    let fits : SFits w128 (negsuc r) = record { sfits = lt } in
    let less : negsuc r ≡ pos n -ℤ pos p = omega (arith, ints) in
    ap (cast_signed w128) bits ∙ to_z-of_z w128 (negsuc r) fits ∙ less

pub negative_word : (w n r : ℕ) → w ≤ 128 → 1 ≤ w → n < 2 ^ w → sign (nat2bv w n) ≡ true → r ≡ 2 ^ w - 1 - n → cast_signed w128 (340282366920938463463374607431768211455 - r) ≡ bv2int (nat2bv w n)
negative_word w n r le some b h e =
    from_complement (2 ^ w) n r b e (complement_below_half w n r le some b h e)
    ∙ sym ((λ i. cond (sign (nat2bv w n)) (pos (bv2nat-word w n b i) -ℤ pos (2 ^ length-nat2bv w n i)) (pos (bv2nat-word w n b i))) ∙ ap (λ c. cond c (pos n -ℤ pos (2 ^ w)) (pos n)) h)

pub positive_word : (w n : ℕ) → w ≤ 128 → 1 ≤ w → n < 2 ^ w → sign (nat2bv w n) ≡ false → cast_signed w128 n ≡ bv2int (nat2bv w n)
positive_word w n le some b h =
    to_z_pos w128 n (below_half w n le some b h)
    ∙ sym ((λ i. cond (sign (nat2bv w n)) (pos (bv2nat-word w n b i) -ℤ pos (2 ^ length-nat2bv w n i)) (pos (bv2nat-word w n b i))) ∙ ap (λ c. cond c (pos n -ℤ pos (2 ^ w)) (pos n)) h)

pub neg_word : (w n : ℕ) → w ≤ 128 → n < 2 ^ w → nat2bv w ((0 + (340282366920938463463374607431768211456 - n)) % 340282366920938463463374607431768211456) ≡ bvneg (nat2bv w n)
neg_word w n le b = ap (λ k. nat2bv w (k % 340282366920938463463374607431768211456)) (zero-add (340282366920938463463374607431768211456 - n)) ∙ bvneg-words w n le b

pub not_word : (w n r : ℕ) → w ≤ 128 → n < 2 ^ w → r ≡ (340282366920938463463374607431768211455 - n) % 2 ^ w → r ≡ 2 ^ w - 1 - n
not_word w n r le b e =
    let whole = below_word w n le b in
    let below : 2 ^ w - 1 - n < 2 ^ w = omega arith in
    let same : 340282366920938463463374607431768211455 - n ≡ (2 ^ (128 - w) - 1) * 2 ^ w + (2 ^ w - 1 - n) = omega (arith, whole) in
    e ∙ ap (λ k. k % 2 ^ w) same ∙ mod-mul-add (2 ^ (128 - w) - 1) (2 ^ w) (2 ^ w - 1 - n) below

-- ---- shifts

pub shl_word : (w m n k r : ℕ) → w ≤ 128 → m < 2 ^ w → n < 2 ^ w → k < w → k ≡ n → nat2bv w r ≡ nat2bv w (m * 2 ^ k % 340282366920938463463374607431768211456) → nat2bv w r ≡ bvshl (nat2bv w m) (nat2bv w n)
shl_word w m n k r le a b lt e h =
    let near : n < w = omega arith in
    h ∙ ap (λ j. nat2bv w (m * 2 ^ j % 340282366920938463463374607431768211456)) e ∙ bvshl-words w m w n le a b near

pub lshr_word : (w m n k r : ℕ) → m < 2 ^ w → n < 2 ^ w → k < w → k ≡ n → nat2bv w r ≡ nat2bv w (m / 2 ^ k) → nat2bv w r ≡ bvlshr (nat2bv w m) (nat2bv w n)
lshr_word w m n k r a b lt e h =
    let near : n < w = omega arith in
    h ∙ ap (λ j. nat2bv w (m / 2 ^ j)) e ∙ bvlshr-words w m w n a b near

-- ---- division of signed numbers

pub signed_zero : (w n : ℕ) → n < 2 ^ w → bv2int (nat2bv w n) ≡ pos 0 → n ≡ 0
signed_zero w n b h =
    by (sign (nat2bv w n)) (sym (λ i. cond (sign (nat2bv w n)) (pos (bv2nat-word w n b i) -ℤ pos (2 ^ length-nat2bv w n i)) (pos (bv2nat-word w n b i))) ∙ h)
  where
    by : (c : Bool) → cond c (pos n -ℤ pos (2 ^ w)) (pos n) ≡ pos 0 → n ≡ 0
    by true e = absurd (omega (arith, ints))
    by false e = cc

pub not_zero_signed : (w n : ℕ) (z : ℤ) → n < 2 ^ w → (n ≡ 0 → ⊥) → SFits w128 z → z ≡ bv2int (nat2bv w n) → cast_signed w128 (cast_unsigned w128 z) ≡ pos 0 → ⊥
not_zero_signed w n z b h f e g = h (signed_zero w n b (sym e ∙ sym (to_z-of_z w128 z f) ∙ g))

pub not_signed_zero : (w n : ℕ) (z : ℤ) → n < 2 ^ w → (n ≡ 0 → ⊥) → SFits w128 z → z ≡ bv2int (nat2bv w n) → IsNonZero w128 (cast_signed w128 (cast_unsigned w128 z))
not_signed_zero w n z b h f e = subst (IsNonZero w128) (sym (to_z-of_z w128 z f)) (by z f e)
  where
    by : (z : ℤ) → SFits w128 z → z ≡ bv2int (nat2bv w n) → IsNonZero w128 z
    by (pos zero) f e = absurd (h (signed_zero w n b (sym e)))
    by (pos (suc k)) f e = omega arith
    by (negsuc k) f e = omega (arith, f.sfits)

-- the bits of a number of 128 bits
pub int2bv-word : (w : ℕ) (z : ℤ) → w ≤ 128 → unsigned_abs z < 2 ^ 128 → nat2bv w (cast_unsigned w128 z) ≡ int2bv w z
int2bv-word w (pos n) le b = sym (nat2bv-mod w n)
int2bv-word w (negsuc n) le b =
    let place : 2 ^ 128 - suc n ≡ 2 ^ 128 - 1 - n = omega arith in
    let below : n < 2 ^ 128 = omega arith in
    let width : w + 0 ≡ w = omega arith in
    let rest : n % 2 ^ w < 2 ^ (w + 0) = subst (λ k. n % 2 ^ w < 2 ^ k) (sym width) (mod_below n (2 ^ w) (pow_pos w)) in
    ap (nat2bv w) place ∙ bvnot-words w n le below ∙ ap bvnot (sym (nat2bv-mod w n)) ∙ sym (not_longer 0 w (n % 2 ^ w) rest)
    ∙ ap (λ k. nat2bv w (2 ^ k - 1 - n % 2 ^ w)) width

fits_abs : (z : ℤ) → SFits w128 z → unsigned_abs z ≤ 2 ^ 127
fits_abs (pos n) f = omega (arith, f.sfits)
fits_abs (negsuc n) f = omega (arith, f.sfits)

abs_below : (z : ℤ) → unsigned_abs z ≤ 2 ^ 127 → unsigned_abs z < 2 ^ 128
abs_below z le = omega arith

unsigned_below : (z : ℤ) → unsigned_abs z ≤ 2 ^ 127 → cast_unsigned w128 z < 2 ^ 128
unsigned_below (pos n) le = omega arith
unsigned_below (negsuc n) le = omega arith

-- from the number as the code has it to its bits
casted : (w : ℕ) (z q : ℤ) (n r : ℕ) → w ≤ 128 → unsigned_abs z ≤ 2 ^ 127 → SFits w128 q → q ≡ cast_signed w128 (cast_unsigned w128 z) → n ≡ cast_unsigned w128 (cast_signed w128 (cast_unsigned w128 q)) → nat2bv w r ≡ nat2bv w n → nat2bv w r ≡ int2bv w z
casted w z q n r le b f e h g =
    let bits : cast_unsigned w128 q ≡ cast_unsigned w128 z = ap (cast_unsigned w128) e ∙ of_z-to_z w128 (cast_unsigned w128 z) (unsigned_below z b) in
    g ∙ ap (nat2bv w) (h ∙ ap (cast_unsigned w128) (to_z-of_z w128 q f) ∙ bits) ∙ int2bv-word w z le (abs_below z b)

neg_abs : (n : ℕ) → unsigned_abs (neg_ℤ (pos n)) ≡ n
neg_abs zero = refl
neg_abs (suc n) = refl

pub int_div_abs : (a b : ℤ) → unsigned_abs (int_div a b) ≤ unsigned_abs a
int_div_abs (pos m) (pos n) = div-le_self m n
int_div_abs (pos m) (negsuc n) = omega (arith, neg_abs (m / suc n), div-le_self m (suc n))
int_div_abs (negsuc m) (pos n) = omega (arith, neg_abs (suc m / n), div-le_self (suc m) n)
int_div_abs (negsuc m) (negsuc n) = div-le_self (suc m) (suc n)

pub quotient_word : (w : ℕ) (a b q : ℤ) (n r : ℕ) → w ≤ 128 → SFits w128 a → SFits w128 b → SFits w128 q → q ≡ int_wrapping_div w128 (cast_signed w128 (cast_unsigned w128 a)) (cast_signed w128 (cast_unsigned w128 b))
    → n ≡ cast_unsigned w128 (cast_signed w128 (cast_unsigned w128 q)) → nat2bv w r ≡ nat2bv w n → nat2bv w r ≡ int2bv w (int_div a b)
quotient_word w a b q n r le f g h e k =
    let exact : q ≡ cast_signed w128 (cast_unsigned w128 (int_div a b)) = e ∙ (λ i. cast_signed w128 (cast_unsigned w128 (int_div (to_z-of_z w128 a f i) (to_z-of_z w128 b g i)))) in
    let below : unsigned_abs (int_div a b) ≤ 2 ^ 127 = omega (arith, int_div_abs a b, fits_abs a f) in
    casted w (int_div a b) q n r le below h exact k

-- of a result that fits
pub result_word : (w : ℕ) (F : ℤ → ℤ → ℤ) (a b q : ℤ) (n r : ℕ) → w ≤ 128 → SFits w128 a → SFits w128 b → SFits w128 q → q ≡ F (cast_signed w128 (cast_unsigned w128 a)) (cast_signed w128 (cast_unsigned w128 b))
    → n ≡ cast_unsigned w128 (cast_signed w128 (cast_unsigned w128 q)) → nat2bv w r ≡ nat2bv w n → nat2bv w r ≡ int2bv w (F a b)
result_word w F a b q n r le f g h e k t =
    casted w q q n r le (fits_abs q h) h (sym (to_z-of_z w128 q h)) k t
    ∙ ap (int2bv w) (e ∙ (λ i. F (to_z-of_z w128 a f i) (to_z-of_z w128 b g i)))

-- a divisor that is zero, and another
pub zero_divisor : (w n : ℕ) (x y : BitVector) → n < 2 ^ w → n ≡ 0 → cond (bv2nat (nat2bv w n) == 0) x y ≡ x
zero_divisor w n x y b e = ap (λ k. cond (k == 0) x y) (bv2nat-word w n b ∙ e)

pub some_divisor : (w m n : ℕ) (x : BitVector) (z : ℤ) → n < 2 ^ w → (n ≡ 0 → ⊥) → int2bv w z ≡ cond (bv2nat (nat2bv w n) == 0) x (int2bv (length (nat2bv w m)) z)
some_divisor w m n x z b h =
    ap (λ k. int2bv k z) (sym (length-nat2bv w m))
    ∙ sym (ap (λ k. cond (k == 0) x (int2bv (length (nat2bv w m)) z)) (bv2nat-word w n b) ∙ ap (λ c. cond c x (int2bv (length (nat2bv w m)) z)) (not_zero n h))

-- a quotient's bits where the divisor is zero
pub sdiv_zero : (w m n q r : ℕ) → w ≤ 128 → n < 2 ^ w → n ≡ 0 → q ≡ cond (sign (nat2bv w m)) 1 340282366920938463463374607431768211455 → nat2bv w r ≡ nat2bv w q → nat2bv w r ≡ bvsdiv (nat2bv w m) (nat2bv w n)
sdiv_zero w m n q r le b e told h =
    h ∙ ap (nat2bv w) told ∙ by (sign (nat2bv w m))
    ∙ sym (zero_divisor w n (cond (sign (nat2bv w m)) (nat2bv (length (nat2bv w m)) 1) (ones (length (nat2bv w m)))) (int2bv (length (nat2bv w m)) (int_div (bv2int (nat2bv w m)) (bv2int (nat2bv w n)))) b e
    ∙ ap (λ k. cond (sign (nat2bv w m)) (nat2bv k 1) (ones k)) (length-nat2bv w m))
  where
    by : (c : Bool) → nat2bv w (cond c 1 340282366920938463463374607431768211455) ≡ cond c (nat2bv w 1) (ones w)
    by true = refl
    by false = ones-words w le

pub longest : (w n : ℕ) → w ≤ 128 → n < 2 ^ w → n < 2 ^ 128
longest w n le b = let some : zero < 2 = omega arith in omega (arith, pow-le-pow_right some le)

-- ---- rotations and signed extension, from parts

pub parts_joined : (w v u v' u' r a b : ℕ) (s t : BitVector) → v ≡ v' → u ≡ u' → v' + u' ≡ w → nat2bv (v + u) r ≡ concat (nat2bv v a) (nat2bv u b) → nat2bv v' a ≡ s → nat2bv u' b ≡ t → nat2bv w r ≡ concat s t
parts_joined w v u v' u' r a b s t e f whole h high low =
    ap (λ k. nat2bv k r) (sym whole ∙ (λ i. sym e i + sym f i)) ∙ h ∙ (λ i. concat ((ap (λ k. nat2bv k a) e ∙ high) i) ((ap (λ k. nat2bv k b) f ∙ low) i))

pub extended : (w i v x y z : ℕ) (s : BitVector) → v ≡ w → y ≡ v + i → nat2bv w x ≡ bvnot s → nat2bv (v + i) z ≡ zero_extend i (nat2bv v x) → (r : ℕ) → nat2bv y r ≡ bvnot (nat2bv y z) → sign s ≡ true → nat2bv (w + i) r ≡ sign_extend i s
extended w i v x y z s e f turned longer r back h =
    ap (λ k. nat2bv k r) (ap (λ k. k + i) (sym e) ∙ sym f) ∙ back ∙ ap bvnot (ap (λ k. nat2bv k z) f ∙ longer ∙ ap (zero_extend i) (ap (λ k. nat2bv k x) e ∙ turned))
    ∙ sign_extend-negative i s h

-- ---- one bit

bit_told : (c : Bool) → (from_bool c % 2 % 2 == 1) ≡ c
bit_told true = refl
bit_told false = refl

pub comp_bit : (w m n k r : ℕ) → m < 2 ^ w → n < 2 ^ w → k ≡ from_bool (m == n) → r ≡ k % 2 → ◌≡◌ {A = BitVector} ((r % 2 == 1) ∷ []) (bvcomp (nat2bv w m) (nat2bv w n))
comp_bit w m n k r a b e f = ap (λ c. c ∷ []) (ap (λ k. k % 2 == 1) (f ∙ ap (λ k. k % 2) e) ∙ bit_told (m == n)) ∙ comp_word w m n a b
