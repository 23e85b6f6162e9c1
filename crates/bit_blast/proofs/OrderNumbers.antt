-- What comparisons of bits tell of the numbers, and what turning the highest bit makes of a number.
use Rattle.std.proofs.Common.{◌≡◌, ℕ, zero, suc, ◌+◌, ◌-◌, ◌*◌, ◌^◌, ◌<◌, Bool, true, false, cond, not, ◌&&◌, nat_lt, nat_le, ℤ, pos, negsuc, ◌-ℤ◌, int_lt, int_le, [], ◌∷◌, length, refl, ap, sym, ◌∙◌, subst, inl, inr, arith}
use Rattle.std.specs.Bool.{beq}
use Rattle.std.specs.List.{list_all}
use Rattle.std.proofs.Math.Nat.{pow-suc}
use Rattle.std.proofs.lemmas.Bool.{ltb-true, lt-ltb, le-ltb, le-leb, lt-leb, cases_lt}
use Rattle.std.proofs.lemmas.Int.{ints}
use Rattle.smt_terms.specs.BitVectors.{BitVector, bit_number, bv2nat, bv2int, sign, bits_eq}
use Rattle.smt_terms.proofs.Tests.{alike_from}
use Rattle.smt_terms.proofs.BitLaws.{bv2nat-small}
use Rattle.bit_blast.specs.Circuits.{inverse, both, either, alike, joined, each, equal, less_from, less, with_top_turned, signed_less, top}
use Rattle.bit_blast.proofs.TruthGates.{truth_gates}

-- ---- the order of numbers

-- two tests of order that hold of one another's numbers
same_order : (j k m n : ℕ) → (j < k → m < n) → (m < n → j < k) → nat_lt j k ≡ nat_lt m n
same_order j k m n f g = alike_from (nat_lt j k) (nat_lt m n) (λ h. lt-ltb m n (f (ltb-true j k h))) (λ h. lt-ltb j k (g (ltb-true m n h)))

-- what the lowest bits a and b and l, of those below them, say for the bits above
abbrev told : Bool → Bool → Bool → Bool
told a b l = either truth_gates (both truth_gates (inverse truth_gates a) b) (both truth_gates (alike truth_gates a b) l)

one_more : (a b l : Bool) (u v : ℕ) → nat_lt u (v + bit_number (told a b l)) ≡ nat_lt (bit_number a + 2 * u) ((bit_number b + 2 * v) + bit_number l)
one_more true true true u v = same_order u (v + 1) (1 + 2 * u) ((1 + 2 * v) + 1) (λ h. omega arith) (λ h. omega arith)
one_more true true false u v = same_order u (v + 0) (1 + 2 * u) ((1 + 2 * v) + 0) (λ h. omega arith) (λ h. omega arith)
one_more true false true u v = same_order u (v + 0) (1 + 2 * u) ((0 + 2 * v) + 1) (λ h. omega arith) (λ h. omega arith)
one_more true false false u v = same_order u (v + 0) (1 + 2 * u) ((0 + 2 * v) + 0) (λ h. omega arith) (λ h. omega arith)
one_more false true true u v = same_order u (v + 1) (0 + 2 * u) ((1 + 2 * v) + 1) (λ h. omega arith) (λ h. omega arith)
one_more false true false u v = same_order u (v + 1) (0 + 2 * u) ((1 + 2 * v) + 0) (λ h. omega arith) (λ h. omega arith)
one_more false false true u v = same_order u (v + 1) (0 + 2 * u) ((0 + 2 * v) + 1) (λ h. omega arith) (λ h. omega arith)
one_more false false false u v = same_order u (v + 0) (0 + 2 * u) ((0 + 2 * v) + 0) (λ h. omega arith) (λ h. omega arith)

-- less, or equal and l
less_from-number : (us vs : BitVector) (l : Bool) → length us ≡ length vs → less_from truth_gates us vs l ≡ nat_lt (bv2nat us) (bv2nat vs + bit_number l)
less_from-number [] [] true e = refl
less_from-number [] [] false e = refl
less_from-number [] (b ∷ vs) l e = absurd (omega arith)
less_from-number (a ∷ us) [] l e = absurd (omega arith)
less_from-number (a ∷ us) (b ∷ vs) l e = less_from-number us vs (told a b l) (omega arith) ∙ one_more a b l (bv2nat us) (bv2nat vs)

pub less-number : (us vs : BitVector) → length us ≡ length vs → less truth_gates us vs ≡ nat_lt (bv2nat us) (bv2nat vs)
less-number us vs e = less_from-number us vs false e ∙ ap (nat_lt (bv2nat us)) (omega arith)

-- not greater is less or equal
not_greater : (m n : ℕ) → not (nat_lt n m) ≡ nat_le m n
not_greater m n = elim (cases_lt n m) [
  | inl above ↦ ap not (lt-ltb n m above) ∙ sym (lt-leb m n above)
  | inr fine ↦ ap not (le-ltb n m fine) ∙ sym (le-leb m n fine)
]

pub not_less-number : (us vs : BitVector) → length us ≡ length vs → not (less truth_gates vs us) ≡ nat_le (bv2nat us) (bv2nat vs)
not_less-number us vs e = ap not (less-number vs us (sym e)) ∙ not_greater (bv2nat us) (bv2nat vs)

-- ---- equal bits

-- also of one bit
pub joined_all : (us : BitVector) → joined truth_gates us ≡ list_all (λ a. a) us
joined_all [] = refl
joined_all (true ∷ []) = refl
joined_all (false ∷ []) = refl
joined_all (a ∷ b ∷ us) = refl

pub equal-bits : (us vs : BitVector) → length us ≡ length vs → equal truth_gates us vs ≡ bits_eq us vs
equal-bits us vs e = joined_all (each (alike truth_gates) us vs) ∙ all us vs e
  where
    all : (us vs : BitVector) → length us ≡ length vs → list_all (λ a. a) (each (alike truth_gates) us vs) ≡ bits_eq us vs
    all [] [] e = refl
    all [] (b ∷ vs) e = absurd (omega arith)
    all (a ∷ us) [] e = absurd (omega arith)
    all (a ∷ us) (b ∷ vs) e = ap (λ r. beq a b && r) (all us vs (omega arith))

-- ---- numbers in two's complement

-- the highest of the bits is worth 2 ^ m
turned : (us : BitVector) (m : ℕ) → length us ≡ suc m → bv2nat (with_top_turned truth_gates us) + 2 ^ m * bit_number (sign us) ≡ bv2nat us + 2 ^ m * bit_number (not (sign us))
turned [] m e = absurd (omega arith)
turned (true ∷ []) m e = let none : m ≡ 0 = omega arith in ap (λ k. 0 + 2 ^ k * 1) none ∙ sym (ap (λ k. 1 + 2 ^ k * 0) none)
turned (false ∷ []) m e = let none : m ≡ 0 = omega arith in ap (λ k. 1 + 2 ^ k * 0) none ∙ sym (ap (λ k. 0 + 2 ^ k * 1) none)
turned (a ∷ b ∷ us) zero e = absurd (omega arith)
turned (a ∷ b ∷ us) (suc m) e =
    let s : Bool = sign (b ∷ us) in
    step (bit_number a) (bv2nat (with_top_turned truth_gates (b ∷ us))) (bv2nat (b ∷ us)) (2 ^ m) (bit_number s) (bit_number (not s)) (2 ^ suc m) (pow-suc 2 m) (turned (b ∷ us) m (omega arith))
  where
    step : (a t u p s r q : ℕ) → q ≡ p * 2 → t + p * s ≡ u + p * r → (a + 2 * t) + q * s ≡ (a + 2 * u) + q * r
    step a t u p s r q power behind = ap (λ k. (a + 2 * t) + k * s) power ∙ once a t u p s r behind ∙ sym (ap (λ k. (a + 2 * u) + k * r) power)
      where
        once : (a t u p s r : ℕ) → t + p * s ≡ u + p * r → (a + 2 * t) + (p * 2) * s ≡ (a + 2 * u) + (p * 2) * r
        once a t u p s r behind = omega arith

below_none : (u p : ℕ) → u < p → pos u -ℤ pos p ≡ negsuc (p - 1 - u)
below_none u p less = omega (arith, ints)

-- where t and r are u and v with the highest bit, which is worth q, turned
signed_order : (a b : Bool) (u v t r p q : ℕ) → p ≡ q * 2 → u < p → v < p → t + q * bit_number a ≡ u + q * bit_number (not a) → r + q * bit_number b ≡ v + q * bit_number (not b)
    → nat_lt t r ≡ int_lt (cond a (pos u -ℤ pos p) (pos u)) (cond b (pos v -ℤ pos p) (pos v))
signed_order true true u v t r p q e f g h k = same_order t r (p - 1 - v) (p - 1 - u) (λ x. omega arith) (λ x. omega arith) ∙ sym (λ i. int_lt (below_none u p f i) (below_none v p g i))
signed_order true false u v t r p q e f g h k = lt-ltb t r (omega arith) ∙ sym (ap (λ z. int_lt z (pos v)) (below_none u p f))
signed_order false true u v t r p q e f g h k = le-ltb t r (omega arith) ∙ sym (ap (λ z. int_lt (pos u) z) (below_none v p g))
signed_order false false u v t r p q e f g h k = same_order t r u v (λ x. omega arith) (λ x. omega arith)

length-with_top_turned : (us : BitVector) → length (with_top_turned truth_gates us) ≡ length us
length-with_top_turned [] = refl
length-with_top_turned (a ∷ []) = refl
length-with_top_turned (a ∷ b ∷ us) = ap suc (length-with_top_turned (b ∷ us))

pub signed_less-number : (us vs : BitVector) → length us ≡ length vs → 0 < length us → signed_less truth_gates us vs ≡ int_lt (bv2int us) (bv2int vs)
signed_less-number [] vs e some = absurd (omega arith)
signed_less-number (a ∷ us) vs e some =
    let m : ℕ = length us in
    let width : 2 ^ length vs ≡ 2 ^ suc m = ap (λ n. 2 ^ n) (sym e) in
    less-number (with_top_turned truth_gates (a ∷ us)) (with_top_turned truth_gates vs) (length-with_top_turned (a ∷ us) ∙ e ∙ sym (length-with_top_turned vs))
    ∙ signed_order (sign (a ∷ us)) (sign vs) (bv2nat (a ∷ us)) (bv2nat vs) (bv2nat (with_top_turned truth_gates (a ∷ us))) (bv2nat (with_top_turned truth_gates vs)) (2 ^ suc m) (2 ^ m)
    (pow-suc 2 m) (bv2nat-small (a ∷ us)) (subst (λ k. bv2nat vs < k) width (bv2nat-small vs)) (turned (a ∷ us) m refl) (turned vs m (sym e))
    ∙ sym (ap (λ k. int_lt (bv2int (a ∷ us)) (cond (sign vs) (pos (bv2nat vs) -ℤ pos k) (pos (bv2nat vs)))) width)

signed_not_greater : (y z : ℤ) → not (int_lt z y) ≡ int_le y z
signed_not_greater (pos m) (pos n) = not_greater m n
signed_not_greater (pos m) (negsuc n) = refl
signed_not_greater (negsuc m) (pos n) = refl
signed_not_greater (negsuc m) (negsuc n) = not_greater n m

pub not_signed_less-number : (us vs : BitVector) → length us ≡ length vs → 0 < length us → not (signed_less truth_gates vs us) ≡ int_le (bv2int us) (bv2int vs)
not_signed_less-number us vs e some = ap not (signed_less-number vs us (sym e) (omega arith)) ∙ signed_not_greater (bv2int us) (bv2int vs)

pub top-sign : (us : BitVector) → top truth_gates us ≡ sign us
top-sign [] = refl
top-sign (a ∷ []) = refl
top-sign (a ∷ b ∷ us) = top-sign (b ∷ us)
