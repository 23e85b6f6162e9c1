-- A numeral reads back as its number, so that different numbers have different numerals.
use Rattle.std.proofs.Common.{◌≡◌, ℕ, zero, suc, ◌+◌, ◌-◌, ◌*◌, ◌/◌, ◌%◌, ◌<◌, ◌≤◌, nat_lt, Bool, true, false, List, [], ◌∷◌, refl, ap, sym, ◌∙◌, arith}
use Rattle.std.proofs.lemmas.Bool.{ltb-false}
use Rattle.std.proofs.lemmas.Nat.{div-add-mod'}
use Rattle.std.proofs.Math.Nat.{div-lt_self}
use Rattle.smt_terms.specs.Numeral.{digits_before, numeral}

-- the number that these digits say behind others that say n
read : ℕ → List ℕ → ℕ
read n [] = n
read n (d ∷ ds) = read (n * 10 + (d - 48)) ds

last_digit : (n : ℕ) (after : List ℕ) → read 0 ((48 + n) ∷ after) ≡ read n after
unfolding read
last_digit n after = ap (λ k. read k after) (omega arith)

more_digits : (n : ℕ) (after : List ℕ) → read (n / 10) ((48 + n % 10) ∷ after) ≡ read n after
unfolding read
more_digits n after =
    let whole : n / 10 * 10 + n % 10 ≡ n = div-add-mod' n 10 in
    let same : n / 10 * 10 + (48 + n % 10 - 48) ≡ n = omega arith in
    ap (λ k. read k after) same

fewer : (n room : ℕ) → 10 ≤ n → n < suc room → n / 10 < room
fewer n room h k =
    let less : n / 10 < n = div-lt_self (omega arith) (omega arith) in
    omega arith

read_digits : (room n : ℕ) (after : List ℕ) → n < room → read 0 (digits_before room n after) ≡ read n after
read_digits zero n after h = absurd (omega arith)
read_digits (suc room) n after h = go (nat_lt n 10) refl (read_digits room (n / 10) ((48 + n % 10) ∷ after))
  where
    go : (small : Bool) → nat_lt n 10 ≡ small → (n / 10 < room → read 0 (digits_before room (n / 10) ((48 + n % 10) ∷ after)) ≡ read (n / 10) ((48 + n % 10) ∷ after)) → read 0 (elim small [ true ↦ (48 + n) ∷ after | false ↦ digits_before room (n / 10) ((48 + n % 10) ∷ after) ]) ≡ read n after
    go true e below = last_digit n after
    go false e below = below (fewer n room (ltb-false n 10 e) h) ∙ more_digits n after

read_numeral : (n : ℕ) → read 0 (numeral n) ≡ n
unfolding read
read_numeral n = read_digits (suc n) n [] (omega arith)

pub numeral-injective : (m n : ℕ) → numeral m ≡ numeral n → m ≡ n
numeral-injective m n e = sym (read_numeral m) ∙ ap (read 0) e ∙ read_numeral n
