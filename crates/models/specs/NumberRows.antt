-- The rows of functions of whole numbers as a program holds them.
use Rattle.std.specs.Prelude.{◌<◌, ◌^◌, if◌then◌else◌, List, [], ◌∷◌, ◌++◌, map, ℤ, unsigned_abs, All}
use Rattle.std.specs.List.{list_any}
use Rattle.std.specs.Ordering.{int_eq}
use Rattle.smt_terms.specs.Models.{NumberRow, NumberGraph}

abbrev pub number_row_of : ℤ × ℤ → NumberRow
number_row_of r = record { key = r.0; result = r.1 }

abbrev pub number_rows_of : List (ℤ × ℤ) → List NumberRow
number_rows_of rs = map number_row_of rs

-- within the range of whole numbers
abbrev pub IsWithin : ℤ → Type 0
IsWithin n = unsigned_abs n < 2 ^ 127

abbrev pub AreWithin : List (ℤ × ℤ) → Type 0
AreWithin rs = All (λ r. IsWithin r.0 × IsWithin r.1) rs

-- the function that has one value everywhere
abbrev pub constant_numbers : ℤ → NumberGraph
constant_numbers n = record { rows = []; otherwise = n }

-- a row more, unless there is one for this number
abbrev pub number_row_added : ℤ → ℤ → NumberGraph → NumberGraph
number_row_added key result g =
    if list_any (λ r. int_eq r.key key) g.rows then g
    else record { rows = g.rows ++ record { key = key; result = result } ∷ []; otherwise = g.otherwise }
