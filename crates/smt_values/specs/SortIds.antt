-- The sorts that numbers name: SMT-LIB 2.6, section 3.5. A table is the list of its array sorts and its free sorts.
use Rattle.std.specs.Prelude.{◌≡◌, ℕ, ◌+◌, ◌-◌, ◌<◌, ◌==◌, Bool, true, false, not, ◌&&◌, nat_lt, if◌then◌else◌, List, [], ◌∷◌, ◌++◌, length, get_or, IsTrue, Contains, ◌⊎◌}
use Rattle.std.specs.List.{list_all}
use Rattle.smt_terms.specs.declared.ids.SortId.{SortId}
use Rattle.smt_terms.specs.Sorts.{Name, Sort, bool, int, bit_vector, array, free_sort}
use Rattle.smt_terms.specs.Rank.{is_sort}

abbrev pub first_composed : ℕ
first_composed = 130

abbrev pub sort_numbered : List Sort → ℕ → Sort
sort_numbered ss n =
    if n == 0 then bool
    else if n == 1 then int
    else if nat_lt n 130 then bit_vector (n - 1)
    else get_or ss (n - 130) bool

-- the sort of a number: 0 is `Bool`, 1 is `Int`, 1 + w is the bit vectors of width w for w from 1 to 128, and then come the
-- sorts of the table
abbrev pub sort_at : List Sort → SortId → Sort
sort_at ss s = sort_numbered ss s.0

abbrev pub IsSortId : List Sort → SortId → Type 0
IsSortId ss s = s.0 < 130 + length ss

-- a name without the bytes `|` and `\`
abbrev pub is_plain : Name → Bool
is_plain = list_all (λ b. not (b == 124) && not (b == 92))

abbrev pub IsPlain : Name → Type 0
IsPlain n = IsTrue (is_plain n)

-- an array sort, or the free sort of a plain name
abbrev pub is_composed : Sort → Bool
is_composed (array _ _) = true
is_composed (free_sort n) = is_plain n
is_composed _ = false

abbrev pub is_free : Sort → Bool
is_free (free_sort _) = true
is_free _ = false

-- what holds of every table; no two of its sorts are equal, so that equal sorts have one number
pub record IsSortList (ss : List Sort) : Type 0 where
  pub sorts : (i : ℕ) → i < length ss → IsTrue (is_sort (get_or ss i bool))
  pub composed : (i : ℕ) → i < length ss → IsTrue (is_composed (get_or ss i bool))
  pub distinct : (i j : ℕ) → i < length ss → j < length ss → get_or ss i bool ≡ get_or ss j bool → i ≡ j

-- the list is as it was, or has this sort, which it hadn't, behind those that it had
abbrev pub AddsSort : List Sort → List Sort → Sort → Type 0
AddsSort old new s = (new ≡ old) ⊎ ((new ≡ old ++ s ∷ []) × (Contains old s → ⊥))
