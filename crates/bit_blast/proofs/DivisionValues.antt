-- Quotients and remainders by the circuits over truth values are those of the numbers: the division of schools, a bit at a time.
use Rattle.std.proofs.Common.{◌≡◌, ℕ, suc, ◌+◌, ◌-◌, ◌*◌, ◌/◌, ◌%◌, ◌^◌, ◌<◌, ◌≤◌, Bool, true, false, cond, not, nat_lt, [], ◌∷◌, ◌++◌, length, take, refl, ap, sym, ◌∙◌, subst, inl, inr, arith, length-append, length-take-le, take-take}
use Rattle.std.proofs.lemmas.Bool.{lt-ltb, le-ltb, ne_eqb, cases_lt, cases_eq}
use Rattle.std.proofs.lemmas.Nat.{div-mul-add, mod-mul-add}
use Rattle.smt_terms.specs.BitVectors.{BitVector, bit_number, bv2nat, nat2bv, zeros, ones, bvsub, bvudiv, bvurem}
use Rattle.smt_terms.proofs.BitLaws.{at_width, bv2nat-small, bv2nat-zeros, sub-none, udiv-none, urem-none}
use Rattle.smt_terms.proofs.BitLengths.{length-copies, keeps_bvsub}
use Rattle.bit_blast.specs.Circuits.{Division, next_division, division, quotient, remainder, less, difference}
use Rattle.bit_blast.proofs.TruthGates.{truth_gates}
use Rattle.bit_blast.proofs.ChosenBits.{chosen_is, bv2nat-sub, bv2nat-take, bv2nat-wider}
use Rattle.bit_blast.proofs.CircuitStatements.{AreAlike, DivisionsAreRight}
use Rattle.bit_blast.proofs.SumValues.{sums}
use Rattle.bit_blast.proofs.OrderValues.{orders}

-- ---- a step

less_is : (s d : BitVector) → length s ≡ length d → 0 < length s → less truth_gates s d ≡ nat_lt (bv2nat s) (bv2nat d)
less_is s d e some = orders.1.0 s d e some

difference_is : (s d : BitVector) → length s ≡ length d → 0 < length s → difference truth_gates s d ≡ bvsub s d
difference_is s d e some = sums.1 s d e some

length-difference : (s d : BitVector) → length s ≡ length d → 0 < length s → length (difference truth_gates s d) ≡ length s
length-difference s d e some = ap length (difference_is s d e some) ∙ keeps_bvsub s d (sym e)

-- a step's quotient and rest, where the divisor is more than what is left
record IsNotTaken (d s : BitVector) (v : Division Bool) : Type 0 where
  quotient : (next_division truth_gates d s v).quotient ≡ false ∷ v.quotient
  rest : (next_division truth_gates d s v).rest ≡ s

not_taken : (d s : BitVector) (v : Division Bool) → length s ≡ length d → 0 < length s → bv2nat s < bv2nat d → IsNotTaken d s v
not_taken d s v e some below =
    let test : less truth_gates s d ≡ true = less_is s d e some ∙ lt-ltb (bv2nat s) (bv2nat d) below in
    record {
      quotient = ap (λ b. not b ∷ v.quotient) test;
      rest = chosen_is (not (less truth_gates s d)) (difference truth_gates s d) s (length-difference s d e some) ∙ ap (λ b. cond (not b) (difference truth_gates s d) s) test;
    }

-- and where it isn't
record IsTaken (d s : BitVector) (v : Division Bool) : Type 0 where
  quotient : (next_division truth_gates d s v).quotient ≡ true ∷ v.quotient
  rest : (next_division truth_gates d s v).rest ≡ bvsub s d

taken : (d s : BitVector) (v : Division Bool) → length s ≡ length d → 0 < length s → bv2nat d ≤ bv2nat s → IsTaken d s v
taken d s v e some above =
    let test : less truth_gates s d ≡ false = less_is s d e some ∙ le-ltb (bv2nat s) (bv2nat d) above in
    record {
      quotient = ap (λ b. not b ∷ v.quotient) test;
      rest = chosen_is (not (less truth_gates s d)) (difference truth_gates s d) s (length-difference s d e some) ∙ ap (λ b. cond (not b) (difference truth_gates s d) s) test ∙ difference_is s d e some;
    }

-- ---- lengths

record HasLengths (us vs : BitVector) (v : Division Bool) : Type 0 where
  quotient : length v.quotient ≡ length us
  rest : length v.rest ≡ suc (length vs)

-- what a step divides, and by what
abbrev left : Bool → BitVector → Division Bool → BitVector
left a vs v = a ∷ take (length vs) v.rest

abbrev divisor : BitVector → BitVector
divisor vs = vs ++ false ∷ []

length-left : (a : Bool) (us vs : BitVector) (v : Division Bool) → HasLengths us vs v → length (left a vs v) ≡ suc (length vs)
length-left a us vs v h = ap suc (length-take-le (length vs) v.rest (let e : length v.rest ≡ suc (length vs) = h.rest in omega arith))

length-divisor : (vs : BitVector) → length (divisor vs) ≡ suc (length vs)
length-divisor vs = let e = length-append vs (false ∷ []) in omega (arith, e)

lengths_step : (a : Bool) (us vs : BitVector) (v : Division Bool) → HasLengths us vs v → HasLengths (a ∷ us) vs (next_division truth_gates (divisor vs) (left a vs v) v)
lengths_step a us vs v h =
    let width : length (left a vs v) ≡ suc (length vs) = length-left a us vs v h in
    let alike : length (left a vs v) ≡ length (divisor vs) = width ∙ sym (length-divisor vs) in
    let some : 0 < length (left a vs v) = omega arith in
    elim (cases_lt (bv2nat (left a vs v)) (bv2nat (divisor vs))) [
      | inl below ↦
          let step = not_taken (divisor vs) (left a vs v) v alike some below in
          record { quotient = ap length step.quotient ∙ ap suc h.quotient; rest = ap length step.rest ∙ width }
      | inr above ↦
          let step = taken (divisor vs) (left a vs v) v alike some above in
          record { quotient = ap length step.quotient ∙ ap suc h.quotient; rest = ap length step.rest ∙ keeps_bvsub (left a vs v) (divisor vs) (sym alike) ∙ width }
    ]

lengths : (us vs : BitVector) → HasLengths us vs (division truth_gates us vs)
lengths [] vs = record { quotient = refl; rest = ap suc (length-copies (length vs) false) }
lengths (a ∷ us) vs = lengths_step a us vs (division truth_gates us vs) (lengths us vs)

-- ---- by a divisor that isn't zero

record IsDivided (n d : ℕ) (v : Division Bool) : Type 0 where
  whole : bv2nat v.quotient * d + bv2nat v.rest ≡ n
  small : bv2nat v.rest < d

bit_below : (b : Bool) → bit_number b < 2
bit_below true = omega arith
bit_below false = omega arith

-- the numbers of a step
not_taken_number : (a q r d n : ℕ) → q * d + r ≡ n → (0 + 2 * q) * d + (a + 2 * r) ≡ a + 2 * n
not_taken_number a q r d n e = omega arith

taken_number : (a q r d n : ℕ) → q * d + r ≡ n → d ≤ a + 2 * r → (1 + 2 * q) * d + (a + 2 * r - d) ≡ a + 2 * n
taken_number a q r d n e above = omega arith

divided_step : (a : Bool) (us vs : BitVector) (v : Division Bool) (n : ℕ) → HasLengths us vs v → IsDivided n (bv2nat vs) v
    → IsDivided (bit_number a + 2 * n) (bv2nat vs) (next_division truth_gates (divisor vs) (left a vs v) v)
divided_step a us vs v n h known =
    let width : length (left a vs v) ≡ suc (length vs) = length-left a us vs v h in
    let alike : length (left a vs v) ≡ length (divisor vs) = width ∙ sym (length-divisor vs) in
    let some : 0 < length (left a vs v) = omega arith in
    let rest_below : bv2nat v.rest < bv2nat vs = known.small in
    let divisor_below : bv2nat vs < 2 ^ length vs = bv2nat-small vs in
    let low : bv2nat (take (length vs) v.rest) ≡ bv2nat v.rest = bv2nat-take (length vs) v.rest h.rest (omega arith) in
    let number : bv2nat (left a vs v) ≡ bit_number a + 2 * bv2nat v.rest = ap (λ k. bit_number a + 2 * k) low in
    let same : bv2nat (divisor vs) ≡ bv2nat vs = bv2nat-wider vs in
    let bit : bit_number a < 2 = bit_below a in
    elim (cases_lt (bv2nat (left a vs v)) (bv2nat (divisor vs))) [
      | inl below ↦
          let step = not_taken (divisor vs) (left a vs v) v alike some below in
          let rest : bv2nat (next_division truth_gates (divisor vs) (left a vs v) v).rest ≡ bit_number a + 2 * bv2nat v.rest = ap bv2nat step.rest ∙ number in
          record {
            whole = (λ i. bv2nat (step.quotient i) * bv2nat vs + rest i) ∙ not_taken_number (bit_number a) (bv2nat v.quotient) (bv2nat v.rest) (bv2nat vs) n known.whole;
            small = subst (λ k. k < bv2nat vs) (sym rest) (subst (λ k. k < bv2nat vs) number (subst (λ k. bv2nat (left a vs v) < k) same below));
          }
      | inr above ↦
          let step = taken (divisor vs) (left a vs v) v alike some above in
          let over : bv2nat vs ≤ bit_number a + 2 * bv2nat v.rest = subst (λ k. bv2nat vs ≤ k) number (subst (λ k. k ≤ bv2nat (left a vs v)) same above) in
          let rest : bv2nat (next_division truth_gates (divisor vs) (left a vs v) v).rest ≡ bit_number a + 2 * bv2nat v.rest - bv2nat vs =
          ap bv2nat step.rest ∙ bv2nat-sub (left a vs v) (divisor vs) above ∙ (λ i. number i - same i) in
          let less : bit_number a + 2 * bv2nat v.rest - bv2nat vs < bv2nat vs = omega arith in
          record {
            whole = (λ i. bv2nat (step.quotient i) * bv2nat vs + rest i) ∙ taken_number (bit_number a) (bv2nat v.quotient) (bv2nat v.rest) (bv2nat vs) n known.whole over;
            small = subst (λ k. k < bv2nat vs) (sym rest) less;
          }
    ]

divided : (us vs : BitVector) → 0 < bv2nat vs → IsDivided (bv2nat us) (bv2nat vs) (division truth_gates us vs)
divided [] vs some =
    let none : bv2nat (zeros (length vs)) ≡ 0 = bv2nat-zeros (length vs) in
    record { whole = omega arith; small = omega arith }
divided (a ∷ us) vs some = divided_step a us vs (division truth_gates us vs) (bv2nat us) (lengths us vs) (divided us vs some)

-- ---- by zero

-- all bits of the quotient are true, and what is left are the bits so far
record IsByZero (us : BitVector) (v : Division Bool) : Type 0 where
  quotient : v.quotient ≡ ones (length us)
  rest : take (length us) v.rest ≡ us

by_zero_step : (a : Bool) (us vs : BitVector) (v : Division Bool) → length us < length vs → bv2nat vs ≡ 0 → HasLengths us vs v → IsByZero us v
    → IsByZero (a ∷ us) (next_division truth_gates (divisor vs) (left a vs v) v)
by_zero_step a us vs v fits none h known =
    let width : length (left a vs v) ≡ suc (length vs) = length-left a us vs v h in
    let alike : length (left a vs v) ≡ length (divisor vs) = width ∙ sym (length-divisor vs) in
    let some : 0 < length (left a vs v) = omega arith in
    let nothing : bv2nat (divisor vs) ≡ 0 = bv2nat-wider vs ∙ none in
    let above : bv2nat (divisor vs) ≤ bv2nat (left a vs v) = omega arith in
    let step = taken (divisor vs) (left a vs v) v alike some above in
    let under : length us ≤ length vs = omega arith in
    record {
      quotient = step.quotient ∙ ap (λ s. true ∷ s) known.quotient;
      rest = ap (take (length (a ∷ us))) (step.rest ∙ sub-none (left a vs v) (divisor vs) nothing) ∙ ap (λ s. a ∷ s) (take-take (length us) (length vs) v.rest under ∙ known.rest);
    }

by_zero : (us vs : BitVector) → length us ≤ length vs → bv2nat vs ≡ 0 → IsByZero us (division truth_gates us vs)
by_zero [] vs fits none = record { quotient = refl; rest = refl }
by_zero (a ∷ us) vs fits none = by_zero_step a us vs (division truth_gates us vs) (omega arith) none (lengths us vs) (by_zero us vs (omega arith) none)

-- ---- the operators

-- by a divisor that isn't zero
pub some_udiv : (us vs : BitVector) → (bv2nat vs ≡ 0 → ⊥) → bvudiv us vs ≡ nat2bv (length us) (bv2nat us / bv2nat vs)
some_udiv us vs other = ap (λ b. cond b (ones (length us)) (nat2bv (length us) (bv2nat us / bv2nat vs))) (ne_eqb (bv2nat vs) 0 other)

pub some_urem : (us vs : BitVector) → (bv2nat vs ≡ 0 → ⊥) → bvurem us vs ≡ nat2bv (length us) (bv2nat us % bv2nat vs)
some_urem us vs other = ap (λ b. cond b us (nat2bv (length us) (bv2nat us % bv2nat vs))) (ne_eqb (bv2nat vs) 0 other)

quotient_number : (n d : ℕ) (v : Division Bool) → IsDivided n d v → bv2nat v.quotient ≡ n / d
quotient_number n d v known = sym (div-mul-add (bv2nat v.quotient) d (bv2nat v.rest) known.small) ∙ ap (λ k. k / d) known.whole

rest_number : (n d : ℕ) (v : Division Bool) → IsDivided n d v → bv2nat v.rest ≡ n % d
rest_number n d v known = sym (mod-mul-add (bv2nat v.quotient) d (bv2nat v.rest) known.small) ∙ ap (λ k. k % d) known.whole

quotients : AreAlike (quotient truth_gates) bvudiv
quotients us vs e some =
    elim (cases_eq (bv2nat vs) 0) [
      | inl none ↦ (by_zero us vs (omega arith) none).quotient ∙ sym (udiv-none us vs none)
      | inr other ↦
          let number : bv2nat (quotient truth_gates us vs) ≡ bv2nat us / bv2nat vs = quotient_number (bv2nat us) (bv2nat vs) (division truth_gates us vs) (divided us vs (omega arith)) in
          sym (at_width (length us) (quotient truth_gates us vs) (lengths us vs).quotient) ∙ ap (nat2bv (length us)) number ∙ sym (some_udiv us vs other)
    ]

-- the lowest bits of what is left, where it is less than the divisor
lowest_number : (us vs : BitVector) (n : ℕ) (v : Division Bool) → HasLengths us vs v → IsDivided n (bv2nat vs) v → bv2nat (take (length vs) v.rest) ≡ n % bv2nat vs
lowest_number us vs n v h known =
    let below : bv2nat v.rest < bv2nat vs = known.small in
    let small : bv2nat vs < 2 ^ length vs = bv2nat-small vs in
    bv2nat-take (length vs) v.rest h.rest (omega arith) ∙ rest_number n (bv2nat vs) v known

length-remainder : (us vs : BitVector) → length (remainder truth_gates us vs) ≡ length vs
length-remainder us vs =
    let width : length (division truth_gates us vs).rest ≡ suc (length vs) = (lengths us vs).rest in
    length-take-le (length vs) (division truth_gates us vs).rest (omega arith)

remainders : AreAlike (remainder truth_gates) bvurem
remainders us vs e some =
    elim (cases_eq (bv2nat vs) 0) [
      | inl none ↦ ap (λ k. take k (division truth_gates us vs).rest) (sym e) ∙ (by_zero us vs (omega arith) none).rest ∙ sym (urem-none us vs none)
      | inr other ↦
          let number : bv2nat (remainder truth_gates us vs) ≡ bv2nat us % bv2nat vs = lowest_number us vs (bv2nat us) (division truth_gates us vs) (lengths us vs) (divided us vs (omega arith)) in
          sym (at_width (length us) (remainder truth_gates us vs) (length-remainder us vs ∙ sym e)) ∙ ap (nat2bv (length us)) number ∙ sym (some_urem us vs other)
    ]

pub divisions : DivisionsAreRight
divisions = (quotients, remainders)
