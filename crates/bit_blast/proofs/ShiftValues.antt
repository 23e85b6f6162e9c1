-- The circuits for shifts give the operators' values: steps by the powers of 2 whose bits are set add up to one move by the distance.
use Rattle.std.proofs.Common.{◌≡◌, ℕ, suc, ◌+◌, ◌*◌, ◌/◌, ◌^◌, ◌<◌, Bool, true, false, cond, [], ◌∷◌, ◌++◌, length, replicate, refl, ap, sym, ◌∙◌, append-nil, pow-add, arith}
use Rattle.std.proofs.Math.Nat.{mul-zero, mul-one, mul-add, mul_assoc, one-mul, pow-suc, zero-min, min_comm, div-div-eq-div-mul, div-le_self, lt_of_le_of_lt}
use Rattle.smt_terms.specs.BitVectors.{BitVector, bit_number, bv2nat, nat2bv, sign, bvnot, bvshl, bvlshr}
use Rattle.smt_terms.proofs.BitLaws.{nat2bv-bv2nat, bv2nat-small, bvnot-twice}
use Rattle.smt_terms.proofs.ConstantTerms.{bv2nat-nat2bv}
use Rattle.bit_blast.specs.Circuits.{chosen, up, down, shifted}
use Rattle.bit_blast.proofs.TruthGates.{truth_gates}
use Rattle.bit_blast.proofs.CircuitStatements.{ShiftsAreRight}
use Rattle.bit_blast.proofs.OrderValues.{orders}
use Rattle.bit_blast.proofs.BitResidues.{bits-times}
use Rattle.bit_blast.proofs.BitMoves.{up_within, down_within, up_number, length-up, down_number, length-down, down-bvnot}

-- ---- moves in steps

-- moves of bits whose distances add up
record IsMove (move : ℕ → BitVector → BitVector) : Type 0 where
  width : (n : ℕ) (us : BitVector) → length (move n us) ≡ length us
  none : (us : BitVector) → move 0 us ≡ us
  more : (m n : ℕ) (us : BitVector) → move m (move n us) ≡ move (n + m) us

chosen_true : (us vs : BitVector) → length us ≡ length vs → chosen truth_gates true us vs ≡ us
chosen_true [] vs e = refl
chosen_true (a ∷ us) [] e = absurd (omega arith)
chosen_true (a ∷ us) (b ∷ vs) e = ap (λ bs. a ∷ bs) (chosen_true us vs (omega arith))

chosen_false : (us vs : BitVector) → length us ≡ length vs → chosen truth_gates false us vs ≡ vs
chosen_false [] [] e = refl
chosen_false [] (b ∷ vs) e = absurd (omega arith)
chosen_false (a ∷ us) [] e = absurd (omega arith)
chosen_false (a ∷ us) (b ∷ vs) e = ap (λ bs. b ∷ bs) (chosen_false us vs (omega arith))

-- a step by a distance or none, by this bit
step : (move : ℕ → BitVector → BitVector) → IsMove move → (b : Bool) (n : ℕ) (us : BitVector) → chosen truth_gates b (move n us) us ≡ move (n * bit_number b) us
step move is true n us = chosen_true (move n us) us (is.width n us) ∙ ap (λ k. move k us) (sym (mul-one n))
step move is false n us = chosen_false (move n us) us (is.width n us) ∙ sym (is.none us) ∙ ap (λ k. move k us) (sym (mul-zero n))

steps_together : (p b n : ℕ) → p * b + p * 2 * n ≡ p * (b + 2 * n)
steps_together p b n = ap (λ k. p * b + k) (mul_assoc p 2 n) ∙ sym (mul-add p b (2 * n))

steps : (move : ℕ → BitVector → BitVector) → IsMove move → (k : ℕ) (vs us : BitVector) → shifted truth_gates move k vs us ≡ move (2 ^ k * bv2nat vs) us
steps move is k [] us = sym (is.none us) ∙ ap (λ n. move n us) (sym (mul-zero (2 ^ k)))
steps move is k (b ∷ vs) us =
    let here : ℕ = 2 ^ k * bit_number b in
    let later : ℕ = 2 ^ suc k * bv2nat vs in
    let together : here + later ≡ 2 ^ k * (bit_number b + 2 * bv2nat vs) = ap (λ p. here + p * bv2nat vs) (pow-suc 2 k) ∙ steps_together (2 ^ k) (bit_number b) (bv2nat vs) in
    steps move is (suc k) vs (chosen truth_gates b (move (2 ^ k) us) us)
    ∙ ap (move later) (step move is b (2 ^ k) us)
    ∙ is.more later here us
    ∙ ap (λ n. move n us) together

whole_move : (move : ℕ → BitVector → BitVector) → IsMove move → (vs us : BitVector) → shifted truth_gates move 0 vs us ≡ move (bv2nat vs) us
whole_move move is vs us = steps move is 0 vs us ∙ ap (λ n. move n us) (one-mul (bv2nat vs))

-- ---- up

up_none : (us : BitVector) → up false 0 us ≡ us
up_none us = up_number 0 us ∙ ap (nat2bv (length us)) (mul-one (bv2nat us)) ∙ nat2bv-bv2nat us

up_more : (m n : ℕ) (us : BitVector) → up false m (up false n us) ≡ up false (n + m) us
up_more m n us =
    let w : ℕ = length us in
    let x : ℕ = bv2nat us in
    let power : x * 2 ^ n * 2 ^ m ≡ x * 2 ^ (n + m) = mul_assoc x (2 ^ n) (2 ^ m) ∙ ap (λ k. x * k) (sym (pow-add 2 n m)) in
    up_number m (up false n us)
    ∙ (λ i. nat2bv (length-up false n us i) (bv2nat (up_number n us i) * 2 ^ m))
    ∙ bits-times w (x * 2 ^ n) (2 ^ m)
    ∙ ap (nat2bv w) power
    ∙ sym (up_number (n + m) us)

ups : IsMove (up false)
ups = record { width = length-up false; none = up_none; more = up_more }

shl : (us vs : BitVector) → shifted truth_gates (up false) 0 vs us ≡ bvshl us vs
shl us vs =
    let w : ℕ = length us in
    whole_move (up false) ups vs us ∙ up_number (bv2nat vs) us ∙ sym (up_within w (bv2nat vs) (bv2nat us)) ∙ ap (λ k. nat2bv w (bv2nat us * 2 ^ k)) (min_comm (bv2nat vs) w)

-- ---- down

down_none : (f : Bool) (us : BitVector) → down f 0 us ≡ us
down_none f us = ap (λ k. us ++ replicate k f) (zero-min (length us)) ∙ append-nil us

down_more : (m n : ℕ) (us : BitVector) → down false m (down false n us) ≡ down false (n + m) us
down_more m n us =
    let w : ℕ = length us in
    let x : ℕ = bv2nat us in
    let small : x / 2 ^ n < 2 ^ w = lt_of_le_of_lt (div-le_self x (2 ^ n)) (bv2nat-small us) in
    let quotient : x / 2 ^ n / 2 ^ m ≡ x / 2 ^ (n + m) = div-div-eq-div-mul x (2 ^ n) (2 ^ m) ∙ ap (λ k. x / k) (sym (pow-add 2 n m)) in
    down_number m (down false n us)
    ∙ (λ i. nat2bv (length-down false n us i) (bv2nat (down_number n us i) / 2 ^ m))
    ∙ ap (λ k. nat2bv w (k / 2 ^ m)) (bv2nat-nat2bv w (x / 2 ^ n) small)
    ∙ ap (nat2bv w) quotient
    ∙ sym (down_number (n + m) us)

downs : IsMove (down false)
downs = record { width = length-down false; none = down_none false; more = down_more }

lshr : (us vs : BitVector) → shifted truth_gates (down false) 0 vs us ≡ bvlshr us vs
lshr us vs =
    let w : ℕ = length us in
    whole_move (down false) downs vs us ∙ down_number (bv2nat vs) us ∙ ap (nat2bv w) (sym (down_within w (bv2nat vs) (bv2nat us) (bv2nat-small us)) ∙ ap (λ k. bv2nat us / 2 ^ k) (min_comm (bv2nat vs) w))

-- ---- down with copies of the sign

turned : (n : ℕ) (us : BitVector) → down true n us ≡ bvnot (down false n (bvnot us))
turned n us = ap (down true n) (sym (bvnot-twice us)) ∙ sym (down-bvnot n (bvnot us))

turned_more : (m n : ℕ) (us : BitVector) → down true m (down true n us) ≡ down true (n + m) us
turned_more m n us =
    let s : BitVector = bvnot us in
    ap (down true m) (turned n us) ∙ sym (down-bvnot m (down false n s)) ∙ ap bvnot (down_more m n s) ∙ sym (turned (n + m) us)

turned_downs : IsMove (down true)
turned_downs = record { width = length-down true; none = down_none true; more = turned_more }

fills : (b : Bool) (us vs : BitVector) → shifted truth_gates (down b) 0 vs us ≡ cond b (bvnot (bvlshr (bvnot us) vs)) (bvlshr us vs)
fills true us vs =
    whole_move (down true) turned_downs vs us ∙ turned (bv2nat vs) us ∙ ap bvnot (sym (whole_move (down false) downs vs (bvnot us)) ∙ lshr (bvnot us) vs)
fills false us vs = lshr us vs

pub shifts : ShiftsAreRight
shifts = (
  (λ us vs same some. shl us vs),
  (λ us vs same some. lshr us vs),
  (λ us vs same some. ap (λ b. shifted truth_gates (down b) 0 vs us) (orders.3 us) ∙ fills (sign us) us vs),
)
