-- The number that digits are.
use Rattle.std.proofs.Common.{◌≡◌, ◌∙◌, ap, refl, ℕ, zero, suc, ◌+◌, ◌-◌, ◌*◌, ◌<◌, ◌≤◌, true, nat_lt, List, [], ◌∷◌, length, get_or, drop, arith}
use Rattle.std.specs.Char.{digit_value, is_ascii_digit}
use Rattle.std.specs.Int.{IsInRange}
use Rattle.std.specs.List.{list_all}
use Rattle.std.specs.Str.Parse.{digits_value, digits_value_after}
use Rattle.std.proofs.lemmas.Bool.{and_parts}
use Rattle.std.proofs.lemmas.Bool.Decides.{nat_tests}
use Rattle.std.proofs.lemmas.Str.{digit_value_digit}
use Rattle.std.proofs.Math.Seq.{drop-cons}
use Rattle.dimacs_link.specs.AnswerTexts.{is_number}

-- it grows with each digit
pub at_least : (n : ℕ) (ds : List ℕ) → n ≤ digits_value_after 10 n ds
at_least n [] = omega arith
at_least n (d ∷ ds) = omega (arith, at_least (n * 10 + digit_value d) ds)

digit_range : (c : ℕ) → is_ascii_digit c ≡ true → IsInRange 48 57 c
digit_range c e = grind (arith, nat_tests)

digit_worth : (c : ℕ) → is_ascii_digit c ≡ true → digit_value c + 48 ≡ c
digit_worth c e = digit_value_digit c (digit_range c e)

all_digits : (ds : List ℕ) → is_number ds ≡ true → list_all is_ascii_digit ds ≡ true
all_digits [] e = refl
all_digits (d ∷ ds) e = (and_parts (nat_lt 48 d) (list_all is_ascii_digit (d ∷ ds)) e).1

digit_at : (ds : List ℕ) (i : ℕ) → list_all is_ascii_digit ds ≡ true → i < length ds → is_ascii_digit (get_or ds i 0) ≡ true
digit_at [] i e within = absurd (omega arith)
digit_at (d ∷ ds) zero e within = (and_parts (is_ascii_digit d) (list_all is_ascii_digit ds) e).0
digit_at (d ∷ ds) (suc i) e within = digit_at ds i (and_parts (is_ascii_digit d) (list_all is_ascii_digit ds) e).1 (omega arith)

-- the next digit of a number
pub next_digit : (ds : List ℕ) (i n : ℕ) → is_number ds ≡ true → i < length ds
    → digits_value_after 10 n (drop i ds) ≡ digits_value_after 10 (10 * n + (get_or ds i 0 - 48)) (drop (i + 1) ds)
next_digit ds i n e within =
    let worth = digit_worth (get_or ds i 0) (digit_at ds i (all_digits ds e) within) in
    let next : n * 10 + digit_value (get_or ds i 0) ≡ 10 * n + (get_or ds i 0 - 48) = omega (arith, worth) in
    let on : suc i ≡ i + 1 = omega arith in
    ap (digits_value_after 10 n) (drop-cons ds i 0 within)
    ∙ ap (λ m. digits_value_after 10 m (drop (suc i) ds)) next
    ∙ ap (λ j. digits_value_after 10 (10 * n + (get_or ds i 0 - 48)) (drop j ds)) on

-- a number isn't 0
pub not_zero : (ds : List ℕ) → is_number ds ≡ true → 0 < digits_value 10 ds
not_zero [] e = absurd cc
not_zero (d ∷ ds) e =
    let parts = and_parts (nat_lt 48 d) (list_all is_ascii_digit (d ∷ ds)) e in
    let worth = digit_worth d (and_parts (is_ascii_digit d) (list_all is_ascii_digit ds) parts.1).0 in
    let large : 48 < d = above d parts.0 in
    omega (arith, worth, at_least (0 * 10 + digit_value d) ds)
  where
    above : (c : ℕ) → nat_lt 48 c ≡ true → 48 < c
    above c h = grind (arith, nat_tests)
