-- Numerals: SMT-LIB 2.6, section 3.1, "a numeral is 0, or digits that begin with 1 to 9".
use Rattle.std.specs.Prelude.{ℕ, zero, suc, ◌+◌, ◌/◌, ◌%◌, nat_lt, true, false, List, [], ◌∷◌}

-- the digits of n, highest first, in front of what is given; the first number is above n, which is room enough
abbrev pub digits_before : ℕ → ℕ → List ℕ → List ℕ
digits_before zero n after = after
digits_before (suc room) n after =
    elim (nat_lt n 10) [ true ↦ (48 + n) ∷ after | false ↦ digits_before room (n / 10) ((48 + n % 10) ∷ after) ]

-- the numeral of a number of any size, as bytes
abbrev pub numeral : ℕ → List ℕ
numeral n = digits_before (suc n) n []
