-- Signed quotients, remainders and moduli by the circuits over truth values are those of the numbers.
use Rattle.std.proofs.Common.{◌≡◌, ℕ, ◌+◌, ◌-◌, ◌/◌, ◌%◌, ◌^◌, ◌<◌, ◌≤◌, Bool, true, false, cond, not, ◌==◌, length, pos, int_div, int_rem, refl, ap, sym, ◌∙◌, subst, inl, inr, arith, mod-lt, div-le_self, pow_pos}
use Rattle.std.specs.Bool.{beq}
use Rattle.std.proofs.lemmas.Bool.{ne_eqb, cases_eq, false_from_ne_true}
use Rattle.smt_terms.specs.BitVectors.{BitVector, bv2nat, nat2bv, bits_eq, zeros, ones, sign, bv2int, int2bv, bvneg, bvadd, bvudiv, bvurem, bvsdiv, bvsrem, bvsmod, floor_mod}
use Rattle.smt_terms.proofs.BitLaws.{bv2nat-small, bv2nat-zeros, zero_bits, nat2bv-modulo, nat2bv-ones, add-none, udiv-none, urem-none, bvneg-twice}
use Rattle.smt_terms.proofs.BitLengths.{length-copies, length-bvneg, keeps_bvadd, keeps_bvudiv, keeps_bvurem}
use Rattle.smt_terms.proofs.ConstantTerms.{bv2nat-nat2bv}
use Rattle.smt_terms.proofs.Same.{Decides-bits_eq}
use Rattle.bit_blast.specs.Circuits.{both, inverse, chosen, top, differ, sum, opposite, absolute, quotient, remainder, signed_quotient, signed_remainder, is_zero, floored, signed_modulus}
use Rattle.bit_blast.proofs.TruthGates.{truth_gates}
use Rattle.bit_blast.proofs.ChosenBits.{chosen_is, chosen_of_four}
use Rattle.bit_blast.proofs.SignedNumbers.{signed, int_div_is, int_rem_is, floor_mod_none, floor_mod_some, int2bv_number, int2bv_is, HasMagnitude, has_magnitude, bv2nat-neg, sign_some, no_sign}
use Rattle.bit_blast.proofs.CircuitStatements.{AreAlike, SignedDivisionsAreRight}
use Rattle.bit_blast.proofs.DivisionValues.{some_udiv, some_urem, divisions}
use Rattle.bit_blast.proofs.SumValues.{sums}
use Rattle.bit_blast.proofs.OrderValues.{orders}

-- ---- signs and magnitudes

opposite_is : (us : BitVector) → opposite truth_gates us ≡ bvneg us
opposite_is us = sums.2 us

top_is : (us : BitVector) → top truth_gates us ≡ sign us
top_is us = orders.3 us

-- a vector or its opposite
turned_is : (c : Bool) (us : BitVector) → chosen truth_gates c (opposite truth_gates us) us ≡ cond c (bvneg us) us
turned_is c us = chosen_is c (opposite truth_gates us) us (ap length (opposite_is us) ∙ length-bvneg us) ∙ ap (λ s. cond c s us) (opposite_is us)

absolute_is : (us : BitVector) → absolute truth_gates us ≡ cond (sign us) (bvneg us) us
absolute_is us = turned_is (top truth_gates us) us ∙ ap (λ b. cond b (bvneg us) us) (top_is us)

magnitude_of : (us : BitVector) → HasMagnitude us (absolute truth_gates us)
magnitude_of us = subst (HasMagnitude us) (sym (absolute_is us)) (has_magnitude us)

-- zero is its own magnitude
absolute_none : (us : BitVector) → bv2nat us ≡ 0 → absolute truth_gates us ≡ us
absolute_none us none = absolute_is us ∙ ap (λ b. cond b (bvneg us) us) (no_sign us none)

-- a and b have the magnitudes of us and vs, which have one width
record AreMagnitudes (us vs a b : BitVector) : Type 0 where
  left : HasMagnitude us a
  right : HasMagnitude vs b
  alike : length a ≡ length b
  some : 0 < length a

magnitudes_of : (us vs : BitVector) → length us ≡ length vs → 0 < length us → AreMagnitudes us vs (absolute truth_gates us) (absolute truth_gates vs)
magnitudes_of us vs e some =
    let left = magnitude_of us in
    let right = magnitude_of vs in
    record {
      left = left;
      right = right;
      alike = left.width ∙ e ∙ sym right.width;
      some = subst (λ k. 0 < k) (sym left.width) some;
    }

-- ---- the unsigned operators on magnitudes

udiv_number : (a b : BitVector) → 0 < bv2nat b → bv2nat (bvudiv a b) ≡ bv2nat a / bv2nat b
udiv_number a b some =
    let whole : bv2nat a / bv2nat b ≤ bv2nat a = div-le_self (bv2nat a) (bv2nat b) in
    let small : bv2nat a < 2 ^ length a = bv2nat-small a in
    ap bv2nat (some_udiv a b (λ none. omega arith)) ∙ bv2nat-nat2bv (length a) (bv2nat a / bv2nat b) (omega arith)

urem_number : (a b : BitVector) → length a ≡ length b → 0 < bv2nat b → bv2nat (bvurem a b) ≡ bv2nat a % bv2nat b
urem_number a b e some =
    let rest : bv2nat a % bv2nat b < bv2nat b = mod-lt (bv2nat a) some in
    let small : bv2nat b < 2 ^ length a = subst (λ k. bv2nat b < 2 ^ k) (sym e) (bv2nat-small b) in
    ap bv2nat (some_urem a b (λ none. omega arith)) ∙ bv2nat-nat2bv (length a) (bv2nat a % bv2nat b) (omega arith)

-- ---- quotients

neg-ones : (w : ℕ) → bvneg (ones w) ≡ nat2bv w 1
neg-ones w =
    let some : 0 < 2 ^ w = pow_pos w in
    let width : length (ones w) ≡ w = length-copies w true in
    let number : bv2nat (ones w) ≡ 2 ^ w - 1 = ap bv2nat (sym (nat2bv-ones w)) ∙ bv2nat-nat2bv w (2 ^ w - 1) (omega arith) in
    let one : 2 ^ w - (2 ^ w - 1) ≡ 1 = omega arith in
    (λ i. nat2bv (width i) (2 ^ width i - number i)) ∙ ap (nat2bv w) one

sdiv_circuit : (us vs : BitVector) → length us ≡ length vs → 0 < length us
    → signed_quotient truth_gates us vs ≡ cond (not (beq (sign us) (sign vs))) (bvneg (bvudiv (absolute truth_gates us) (absolute truth_gates vs))) (bvudiv (absolute truth_gates us) (absolute truth_gates vs))
sdiv_circuit us vs e some =
    let known = magnitudes_of us vs e some in
    let unsigned = divisions.0 (absolute truth_gates us) (absolute truth_gates vs) known.alike known.some in
    turned_is (differ truth_gates (top truth_gates us) (top truth_gates vs)) (quotient truth_gates (absolute truth_gates us) (absolute truth_gates vs))
    ∙ (λ i. cond (not (beq (top_is us i) (top_is vs i))) (bvneg (unsigned i)) (unsigned i))

-- by zero
sdiv_none : (us vs a b : BitVector) → bv2nat vs ≡ 0 → length a ≡ length us → bv2nat b ≡ 0 → cond (not (beq (sign us) (sign vs))) (bvneg (bvudiv a b)) (bvudiv a b) ≡ bvsdiv us vs
sdiv_none us vs a b none width nothing =
    let unsigned : bvudiv a b ≡ ones (length us) = udiv-none a b nothing ∙ ap ones width in
    (λ i. cond (not (beq (sign us) (no_sign vs none i))) (bvneg (unsigned i)) (unsigned i)) ∙ by_sign (sign us)
    ∙ sym (ap (λ n. cond (n == 0) (cond (sign us) (nat2bv (length us) 1) (ones (length us))) (int2bv (length us) (int_div (bv2int us) (bv2int vs)))) none)
  where
    by_sign : (s : Bool) → cond (not (beq s false)) (bvneg (ones (length us))) (ones (length us)) ≡ cond s (nat2bv (length us) 1) (ones (length us))
    by_sign true = neg-ones (length us)
    by_sign false = refl

-- by another divisor, whose magnitude is that of b
sdiv_some : (us vs a b : BitVector) → AreMagnitudes us vs a b → (bv2nat vs ≡ 0 → ⊥) → cond (not (beq (sign us) (sign vs))) (bvneg (bvudiv a b)) (bvudiv a b) ≡ bvsdiv us vs
sdiv_some us vs a b known other =
    let some : 0 < bv2nat b = known.right.some other in
    let width : length (bvudiv a b) ≡ length us = keeps_bvudiv a b (sym known.alike) ∙ known.left.width in
    let number : signed (not (beq (sign us) (sign vs))) (bv2nat (bvudiv a b)) ≡ int_div (bv2int us) (bv2int vs) =
    ap (signed (not (beq (sign us) (sign vs)))) (udiv_number a b some) ∙ sym (int_div_is (sign us) (sign vs) (bv2nat a) (bv2nat b) known.left.negative known.right.negative)
    ∙ sym (λ i. int_div (known.left.number i) (known.right.number i)) in
    sym (int2bv_is (not (beq (sign us) (sign vs))) (bvudiv a b)) ∙ (λ i. int2bv (width i) (number i))
    ∙ sym (ap (λ c. cond c (cond (sign us) (nat2bv (length us) 1) (ones (length us))) (int2bv (length us) (int_div (bv2int us) (bv2int vs)))) (ne_eqb (bv2nat vs) 0 other))

signed_quotients : AreAlike (signed_quotient truth_gates) bvsdiv
signed_quotients us vs e some =
    let known = magnitudes_of us vs e some in
    sdiv_circuit us vs e some ∙ elim (cases_eq (bv2nat vs) 0) [
      | inl none ↦ sdiv_none us vs (absolute truth_gates us) (absolute truth_gates vs) none known.left.width (ap bv2nat (absolute_none vs none) ∙ none)
      | inr other ↦ sdiv_some us vs (absolute truth_gates us) (absolute truth_gates vs) known other
    ]

-- ---- remainders

-- the unsigned remainder of the magnitudes
remainder_is : (us vs : BitVector) → length us ≡ length vs → 0 < length us
    → remainder truth_gates (absolute truth_gates us) (absolute truth_gates vs) ≡ bvurem (absolute truth_gates us) (absolute truth_gates vs)
remainder_is us vs e some =
    let known = magnitudes_of us vs e some in
    divisions.1 (absolute truth_gates us) (absolute truth_gates vs) known.alike known.some

srem_circuit : (us vs : BitVector) → length us ≡ length vs → 0 < length us
    → signed_remainder truth_gates us vs ≡ cond (sign us) (bvneg (bvurem (absolute truth_gates us) (absolute truth_gates vs))) (bvurem (absolute truth_gates us) (absolute truth_gates vs))
srem_circuit us vs e some =
    let unsigned = remainder_is us vs e some in
    turned_is (top truth_gates us) (remainder truth_gates (absolute truth_gates us) (absolute truth_gates vs))
    ∙ (λ i. cond (top_is us i) (bvneg (unsigned i)) (unsigned i))

-- a magnitude with its sign again
turned_back : (s : Bool) (us : BitVector) → cond s (bvneg (cond s (bvneg us) us)) (cond s (bvneg us) us) ≡ us
turned_back true us = bvneg-twice us
turned_back false us = refl

srem_none : (us vs b : BitVector) → bv2nat vs ≡ 0 → bv2nat b ≡ 0 → cond (sign us) (bvneg (bvurem (absolute truth_gates us) b)) (bvurem (absolute truth_gates us) b) ≡ bvsrem us vs
srem_none us vs b none nothing =
    let unsigned : bvurem (absolute truth_gates us) b ≡ cond (sign us) (bvneg us) us = urem-none (absolute truth_gates us) b nothing ∙ absolute_is us in
    (λ i. cond (sign us) (bvneg (unsigned i)) (unsigned i)) ∙ turned_back (sign us) us
    ∙ sym (ap (λ n. cond (n == 0) us (int2bv (length us) (int_rem (bv2int us) (bv2int vs)))) none)

srem_some : (us vs a b : BitVector) → AreMagnitudes us vs a b → (bv2nat vs ≡ 0 → ⊥) → cond (sign us) (bvneg (bvurem a b)) (bvurem a b) ≡ bvsrem us vs
srem_some us vs a b known other =
    let some : 0 < bv2nat b = known.right.some other in
    let width : length (bvurem a b) ≡ length us = keeps_bvurem a b (sym known.alike) ∙ known.left.width in
    let number : signed (sign us) (bv2nat (bvurem a b)) ≡ int_rem (bv2int us) (bv2int vs) =
    ap (signed (sign us)) (urem_number a b known.alike some) ∙ sym (int_rem_is (sign us) (sign vs) (bv2nat a) (bv2nat b) known.left.negative)
    ∙ sym (λ i. int_rem (known.left.number i) (known.right.number i)) in
    sym (int2bv_is (sign us) (bvurem a b)) ∙ (λ i. int2bv (width i) (number i))
    ∙ sym (ap (λ c. cond c us (int2bv (length us) (int_rem (bv2int us) (bv2int vs)))) (ne_eqb (bv2nat vs) 0 other))

signed_remainders : AreAlike (signed_remainder truth_gates) bvsrem
signed_remainders us vs e some =
    let known = magnitudes_of us vs e some in
    srem_circuit us vs e some ∙ elim (cases_eq (bv2nat vs) 0) [
      | inl none ↦ srem_none us vs (absolute truth_gates vs) none (ap bv2nat (absolute_none vs none) ∙ none)
      | inr other ↦ srem_some us vs (absolute truth_gates us) (absolute truth_gates vs) known other
    ]

-- ---- moduli

zero_is : (us : BitVector) → 0 < length us → is_zero truth_gates us ≡ bits_eq us (zeros (length us))
zero_is us some = orders.0 us (zeros (length us)) (sym (length-copies (length us) false)) some

is_zero_none : (us : BitVector) → 0 < length us → bv2nat us ≡ 0 → is_zero truth_gates us ≡ true
is_zero_none us some none = zero_is us some ∙ (Decides-bits_eq us (zeros (length us))).1 (zero_bits us none)

is_zero_some : (us : BitVector) → 0 < length us → 0 < bv2nat us → is_zero truth_gates us ≡ false
is_zero_some us some more = zero_is us some ∙ false_from_ne_true (bits_eq us (zeros (length us))) (λ h.
    let none : bv2nat us ≡ 0 = ap bv2nat ((Decides-bits_eq us (zeros (length us))).0 h) ∙ bv2nat-zeros (length us) in
    omega arith)

-- by the signs of dividend and divisor, for a remainder u that isn't zero
abbrev by_signs : Bool → Bool → BitVector → BitVector → BitVector
by_signs false false u vs = u
by_signs true false u vs = bvadd (bvneg u) vs
by_signs false true u vs = bvadd u vs
by_signs true true u vs = bvneg u

-- the tests of the circuit make this choice
signs_choose : (s t : Bool) (u vs : BitVector)
    → cond (both truth_gates (inverse truth_gates s) (inverse truth_gates t)) u (cond (both truth_gates s (inverse truth_gates t)) (bvadd (bvneg u) vs) (cond (both truth_gates (inverse truth_gates s) t) (bvadd u vs) (bvneg u)))
    ≡ by_signs s t u vs
signs_choose false false u vs = refl
signs_choose true false u vs = refl
signs_choose false true u vs = refl
signs_choose true true u vs = refl

sum_is : (us vs : BitVector) → length us ≡ length vs → 0 < length us → sum truth_gates us vs ≡ bvadd us vs
sum_is us vs e some = sums.0 us vs e some

length-by_signs : (s t : Bool) (u vs : BitVector) → length u ≡ length vs → length (by_signs s t u vs) ≡ length u
length-by_signs false false u vs e = refl
length-by_signs true false u vs e = keeps_bvadd (bvneg u) vs (sym (length-bvneg u ∙ e)) ∙ length-bvneg u
length-by_signs false true u vs e = keeps_bvadd u vs (sym e)
length-by_signs true true u vs e = length-bvneg u

-- what the circuit chooses by signs
abbrev circuit_by_signs : Bool → Bool → BitVector → BitVector → BitVector
circuit_by_signs s t u vs =
    chosen truth_gates (both truth_gates (inverse truth_gates s) (inverse truth_gates t)) u
    (chosen truth_gates (both truth_gates s (inverse truth_gates t)) (sum truth_gates (opposite truth_gates u) vs)
    (chosen truth_gates (both truth_gates (inverse truth_gates s) t) (sum truth_gates u vs) (opposite truth_gates u)))

circuit_by_signs_is : (s t : Bool) (u vs : BitVector) → length u ≡ length vs → 0 < length u → circuit_by_signs s t u vs ≡ by_signs s t u vs
circuit_by_signs_is s t u vs e some =
    let turned : opposite truth_gates u ≡ bvneg u = opposite_is u in
    let turned_width : length (opposite truth_gates u) ≡ length u = ap length turned ∙ length-bvneg u in
    let turned_sum : sum truth_gates (opposite truth_gates u) vs ≡ bvadd (bvneg u) vs =
    sum_is (opposite truth_gates u) vs (turned_width ∙ e) (subst (λ k. 0 < k) (sym turned_width) some) ∙ ap (λ r. bvadd r vs) turned in
    let plain_sum : sum truth_gates u vs ≡ bvadd u vs = sum_is u vs e some in
    chosen_of_four (both truth_gates (inverse truth_gates s) (inverse truth_gates t)) (both truth_gates s (inverse truth_gates t)) (both truth_gates (inverse truth_gates s) t)
    u (sum truth_gates (opposite truth_gates u) vs) (sum truth_gates u vs) (opposite truth_gates u)
    (ap length turned_sum ∙ length-by_signs true false u vs e) (ap length plain_sum ∙ length-by_signs false true u vs e) turned_width
    ∙ (λ i. cond (both truth_gates (inverse truth_gates s) (inverse truth_gates t)) u (cond (both truth_gates s (inverse truth_gates t)) (turned_sum i) (cond (both truth_gates (inverse truth_gates s) t) (plain_sum i) (turned i))))
    ∙ signs_choose s t u vs

floored_is : (s t : Bool) (u vs : BitVector) → length u ≡ length vs → 0 < length u → floored truth_gates s t u vs ≡ cond (is_zero truth_gates u) u (by_signs s t u vs)
floored_is s t u vs e some =
    let inner : circuit_by_signs s t u vs ≡ by_signs s t u vs = circuit_by_signs_is s t u vs e some in
    chosen_is (is_zero truth_gates u) u (circuit_by_signs s t u vs) (sym (ap length inner ∙ length-by_signs s t u vs e)) ∙ ap (cond (is_zero truth_gates u) u) inner

-- in numbers, where b is the magnitude of the divisor
by_signs_number : (s t : Bool) (r vs : BitVector) (b : ℕ) → length r ≡ length vs → 0 < bv2nat r → bv2nat r < b → b ≡ cond t (2 ^ length vs - bv2nat vs) (bv2nat vs)
    → by_signs s t r vs ≡ int2bv (length r) (signed t (cond (beq s t) (bv2nat r) (b - bv2nat r)))
by_signs_number false false r vs b e more less is = sym (int2bv_is false r)
by_signs_number true true r vs b e more less is = sym (int2bv_is true r)
by_signs_number true false r vs b e more less is =
    let small : bv2nat vs < 2 ^ length r = subst (λ k. bv2nat vs < 2 ^ k) (sym e) (bv2nat-small vs) in
    let total : 2 ^ length r - bv2nat r + bv2nat vs ≡ b - bv2nat r + 2 ^ length r = omega arith in
    (λ i. nat2bv (length-bvneg r i) (bv2nat-neg r more i + bv2nat vs)) ∙ ap (nat2bv (length r)) total ∙ nat2bv-modulo (length r) (b - bv2nat r)
    ∙ sym (int2bv_number false (length r) (b - bv2nat r) (omega arith))
by_signs_number false true r vs b e more less is =
    let wide : b ≡ 2 ^ length r - bv2nat vs = is ∙ ap (λ k. 2 ^ k - bv2nat vs) (sym e) in
    let total : bv2nat r + bv2nat vs ≡ 2 ^ length r - (b - bv2nat r) = omega arith in
    ap (nat2bv (length r)) total ∙ sym (int2bv_number true (length r) (b - bv2nat r) (omega arith))

smod_circuit : (us vs : BitVector) → length us ≡ length vs → 0 < length us
    → signed_modulus truth_gates us vs
    ≡ cond (is_zero truth_gates (bvurem (absolute truth_gates us) (absolute truth_gates vs))) (bvurem (absolute truth_gates us) (absolute truth_gates vs))
    (by_signs (sign us) (sign vs) (bvurem (absolute truth_gates us) (absolute truth_gates vs)) vs)
smod_circuit us vs e some =
    let known = magnitudes_of us vs e some in
    let unsigned = remainder_is us vs e some in
    let width : length (bvurem (absolute truth_gates us) (absolute truth_gates vs)) ≡ length us = keeps_bvurem (absolute truth_gates us) (absolute truth_gates vs) (sym known.alike) ∙ known.left.width in
    (λ i. floored truth_gates (top_is us i) (top_is vs i) (unsigned i) vs)
    ∙ floored_is (sign us) (sign vs) (bvurem (absolute truth_gates us) (absolute truth_gates vs)) vs (width ∙ e) (subst (λ k. 0 < k) (sym width) some)

-- a divisor of zero leaves the dividend's magnitude, which gets its sign again
floored_by_zero : (us vs : BitVector) → 0 < length us → bv2nat vs ≡ 0 → (s : Bool) → sign us ≡ s
    → cond (is_zero truth_gates (cond s (bvneg us) us)) (cond s (bvneg us) us) (by_signs s false (cond s (bvneg us) us) vs) ≡ us
floored_by_zero us vs some none true e =
    let more : 0 < bv2nat us = sign_some us e in
    let small : bv2nat us < 2 ^ length us = bv2nat-small us in
    let number : bv2nat (bvneg us) ≡ 2 ^ length us - bv2nat us = bv2nat-neg us more in
    let test : is_zero truth_gates (bvneg us) ≡ false = is_zero_some (bvneg us) (subst (λ k. 0 < k) (sym (length-bvneg us)) some) (omega arith) in
    ap (λ z. cond z (bvneg us) (bvadd (bvneg (bvneg us)) vs)) test ∙ add-none (bvneg (bvneg us)) vs none ∙ bvneg-twice us
floored_by_zero us vs some none false e = either (is_zero truth_gates us)
  where
    either : (z : Bool) → cond z us us ≡ us
    either true = refl
    either false = refl

smod_none : (us vs b : BitVector) → 0 < length us → bv2nat vs ≡ 0 → bv2nat b ≡ 0
    → cond (is_zero truth_gates (bvurem (absolute truth_gates us) b)) (bvurem (absolute truth_gates us) b) (by_signs (sign us) (sign vs) (bvurem (absolute truth_gates us) b) vs) ≡ bvsmod us vs
smod_none us vs b some none nothing =
    let unsigned : bvurem (absolute truth_gates us) b ≡ cond (sign us) (bvneg us) us = urem-none (absolute truth_gates us) b nothing ∙ absolute_is us in
    (λ i. cond (is_zero truth_gates (unsigned i)) (unsigned i) (by_signs (sign us) (no_sign vs none i) (unsigned i) vs)) ∙ floored_by_zero us vs some none (sign us) refl
    ∙ sym (ap (λ n. cond (n == 0) us (int2bv (length us) (floor_mod (bv2int us) (bv2int vs)))) none)

smod_some : (us vs a b : BitVector) → length us ≡ length vs → AreMagnitudes us vs a b → (bv2nat vs ≡ 0 → ⊥)
    → cond (is_zero truth_gates (bvurem a b)) (bvurem a b) (by_signs (sign us) (sign vs) (bvurem a b) vs) ≡ bvsmod us vs
smod_some us vs a b e known other =
    let some : 0 < bv2nat b = known.right.some other in
    let width : length (bvurem a b) ≡ length us = keeps_bvurem a b (sym known.alike) ∙ known.left.width in
    let long : 0 < length (bvurem a b) = subst (λ k. 0 < k) (sym (keeps_bvurem a b (sym known.alike))) known.some in
    let rest : bv2nat (bvurem a b) ≡ bv2nat a % bv2nat b = urem_number a b known.alike some in
    let below : bv2nat a % bv2nat b < bv2nat b = mod-lt (bv2nat a) some in
    let read : floor_mod (signed (sign us) (bv2nat a)) (signed (sign vs) (bv2nat b)) ≡ floor_mod (bv2int us) (bv2int vs) = sym (λ i. floor_mod (known.left.number i) (known.right.number i)) in
    let value : int2bv (length us) (floor_mod (bv2int us) (bv2int vs)) ≡ bvsmod us vs =
    sym (ap (λ c. cond c us (int2bv (length us) (floor_mod (bv2int us) (bv2int vs)))) (ne_eqb (bv2nat vs) 0 other)) in
    elim (cases_eq (bv2nat (bvurem a b)) 0) [
      | inl none ↦
          let number : signed false (bv2nat (bvurem a b)) ≡ floor_mod (bv2int us) (bv2int vs) =
          ap pos none ∙ sym (floor_mod_none (sign us) (sign vs) (bv2nat a) (bv2nat b) known.left.negative some (sym rest ∙ none)) ∙ read in
          ap (λ z. cond z (bvurem a b) (by_signs (sign us) (sign vs) (bvurem a b) vs)) (is_zero_none (bvurem a b) long none)
          ∙ sym (int2bv_is false (bvurem a b)) ∙ (λ i. int2bv (width i) (number i)) ∙ value
      | inr nonzero ↦
          let more : 0 < bv2nat (bvurem a b) = omega arith in
          let less : bv2nat (bvurem a b) < bv2nat b = omega arith in
          let number : signed (sign vs) (cond (beq (sign us) (sign vs)) (bv2nat (bvurem a b)) (bv2nat b - bv2nat (bvurem a b))) ≡ floor_mod (bv2int us) (bv2int vs) =
          ap (λ r. signed (sign vs) (cond (beq (sign us) (sign vs)) r (bv2nat b - r))) rest
          ∙ sym (floor_mod_some (sign us) (sign vs) (bv2nat a) (bv2nat b) known.left.negative some (subst (λ k. 0 < k) rest more)) ∙ read in
          ap (λ z. cond z (bvurem a b) (by_signs (sign us) (sign vs) (bvurem a b) vs)) (is_zero_some (bvurem a b) long more)
          ∙ by_signs_number (sign us) (sign vs) (bvurem a b) vs (bv2nat b) (width ∙ e) more less known.right.size
          ∙ (λ i. int2bv (width i) (number i)) ∙ value
    ]

signed_moduli : AreAlike (signed_modulus truth_gates) bvsmod
signed_moduli us vs e some =
    let known = magnitudes_of us vs e some in
    smod_circuit us vs e some ∙ elim (cases_eq (bv2nat vs) 0) [
      | inl none ↦ smod_none us vs (absolute truth_gates vs) some none (ap bv2nat (absolute_none vs none) ∙ none)
      | inr other ↦ smod_some us vs (absolute truth_gates us) (absolute truth_gates vs) e known other
    ]

pub signed_divisions : SignedDivisionsAreRight
signed_divisions = (signed_quotients, signed_remainders, signed_moduli)
