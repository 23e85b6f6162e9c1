-- Numbers of any size as digits, the lowest first.
use Rattle.std.specs.Prelude.{◌≡◌, ℕ, zero, suc, ◌+◌, ◌-◌, ◌*◌, nat_lt, List, [], ◌∷◌, reverse, if◌then◌else◌}
use Rattle.smt_terms.specs.Numeral.{numeral}

-- the number that the digits say
abbrev pub value : List ℕ → ℕ
value [] = 0
value (d ∷ ds) = (d - 48) + 10 * value ds

-- the digits of a number; 0 has none
abbrev pub digits_of : ℕ → List ℕ
digits_of zero = []
digits_of (suc n) = reverse (numeral (suc n))

-- the digits of a number, and no others
abbrev pub AreDigits : List ℕ → Type 0
AreDigits ds = ds ≡ digits_of (value ds)

-- the digits of the number behind
abbrev pub one_more : List ℕ → List ℕ
one_more [] = 49 ∷ []
one_more (d ∷ ds) = if nat_lt d 57 then (d + 1) ∷ ds else 48 ∷ one_more ds
