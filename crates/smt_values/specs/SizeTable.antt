-- The sizes of declared sorts, by their numbers: SMT-LIB 2.6, section 5.3, where a sort is a set that isn't empty.
use Rattle.std.specs.Prelude.{ℕ, ◌+◌, ◌<◌, ◌==◌, if◌then◌else◌, List, [], ◌∷◌}
use Rattle.std.specs.List.{position_or_len}
use Rattle.smt_terms.specs.declared.ids.SortId.{SortId}
use Rattle.smt_terms.specs.Sorts.{Sort, free_sort}
use Rattle.smt_terms.specs.Equal.{sort_eq}
use Rattle.smt_terms.specs.Values.{Sizes}

-- 1 where there is no size
abbrev pub size_at : List (SortId × ℕ) → SortId → ℕ
size_at [] s = 1
size_at (e ∷ es) s = if s.0 == e.0.0 then e.1 else size_at es s

abbrev pub ArePositive : List (SortId × ℕ) → Type 0
ArePositive [] = Unit {0}
ArePositive (e ∷ es) = (0 < e.1) × ArePositive es

-- the number of a sort of the table
abbrev pub number_of : List Sort → Sort → SortId
number_of ss s = record { 0 = 130 + position_or_len (sort_eq s) ss }

-- the size of each declared sort, by its name
unfoldable pub sizes_by : List Sort → List (SortId × ℕ) → Sizes
sizes_by ss es name = size_at es (number_of ss (free_sort name))
