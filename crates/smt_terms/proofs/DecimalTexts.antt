-- The digits that are written and the numeral of the same number.
use Rattle.std.proofs.Common.{◌≡◌, ℕ, zero, suc, ◌+◌, ◌*◌, ◌/◌, ◌%◌, ◌^◌, ◌<◌, ◌≤◌, nat_lt, Bool, true, false, List, [], ◌∷◌, refl, sym, ◌∙◌, arith}
use Rattle.std.specs.Fmt.{decimal, digits, digits_onto}
use Rattle.std.proofs.lemmas.Bool.{ltb-true, ltb-false}
use Rattle.std.proofs.lemmas.Bool.Decides.{nat_tests}
use Rattle.std.proofs.Math.Nat.{div-lt_iff_lt-mul, div-lt_self, pow-suc}
use Rattle.smt_terms.specs.Numeral.{digits_before, numeral}

onto_last : (k n : ℕ) (after : List ℕ) → n < 10 → digits_onto (suc k) 10 false n after ≡ (48 + n) ∷ after
onto_last k n after lt = grind (arith, nat_tests)

onto_more : (k n : ℕ) (after : List ℕ) → 10 ≤ n → digits_onto (suc k) 10 false n after ≡ digits_onto k 10 false (n / 10) ((48 + n % 10) ∷ after)
onto_more k n after le = grind (arith, nat_tests)

before_last : (room n : ℕ) (after : List ℕ) → n < 10 → digits_before (suc room) n after ≡ (48 + n) ∷ after
before_last room n after lt = grind (arith, nat_tests)

before_more : (room n : ℕ) (after : List ℕ) → 10 ≤ n → digits_before (suc room) n after ≡ digits_before room (n / 10) ((48 + n % 10) ∷ after)
before_more room n after le = grind (arith, nat_tests)

fewer : (k n : ℕ) → n < 10 ^ suc k → n / 10 < 10 ^ k
fewer k n h =
    let next : 10 ^ suc k ≡ 10 ^ k * 10 = pow-suc 10 k in
    (div-lt_iff_lt-mul {k = 10} {x = n} {y = 10 ^ k} (omega arith)).1 (omega arith)

-- the digits of a number that has no more than so many
digits-numeral : (k room n : ℕ) (after : List ℕ) → n < 10 ^ suc k → n < room → digits_onto (suc k) 10 false n after ≡ digits_before room n after
digits-numeral k zero n after few within = absurd (omega arith)
digits-numeral zero (suc room) n after few within = onto_last zero n after few ∙ sym (before_last room n after few)
digits-numeral (suc k) (suc room) n after few within = by (nat_lt n 10) refl (digits-numeral k room (n / 10) ((48 + n % 10) ∷ after))
  where
    by : (b : Bool) → nat_lt n 10 ≡ b
        → (n / 10 < 10 ^ suc k → n / 10 < room → digits_onto (suc k) 10 false (n / 10) ((48 + n % 10) ∷ after) ≡ digits_before room (n / 10) ((48 + n % 10) ∷ after))
        → digits_onto (suc (suc k)) 10 false n after ≡ digits_before (suc room) n after
    by true e rest = let lt : n < 10 = ltb-true n 10 e in onto_last (suc k) n after lt ∙ sym (before_last room n after lt)
    by false e rest =
        let le : 10 ≤ n = ltb-false n 10 e in
        let less : n / 10 < n = div-lt_self (omega arith) (omega arith) in
        onto_more (suc k) n after le ∙ rest (fewer (suc k) n few) (omega arith) ∙ sym (before_more room n after le)

pub decimal-numeral : (n : ℕ) → n < 2 ^ 128 → decimal n ≡ numeral n
unfolding digits
decimal-numeral n h = digits-numeral 63 (suc n) n [] (omega arith) (omega arith)
