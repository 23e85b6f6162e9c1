-- How the fields of a sort table are seen.
use Rattle.std.specs.Prelude.{◌≡◌, ℕ, ◌+◌, ◌<◌, List, [], ◌∷◌, ◌++◌, length, get_or, slice_get, Some, IsFalse}
use Rattle.smt_terms.specs.Sorts.{Sort, bool, array, free_sort}
use Rattle.smt_terms.specs.Rank.{is_array}
use Rattle.smt_values.specs.SortIds.{sort_at, IsSortId, IsPlain, IsSortList}
use Rattle.smt_values.specs.declared.sort_table.Compound.{Compound}
use Rattle.smt_values.specs.declared.sort_table.Compound.TheVariants.{Array, Declared}

abbrev pub compound_sort : List Sort → Compound → Sort
compound_sort made (Array i e) = array (sort_at made i) (sort_at made e)
compound_sort made (Declared n) = free_sort n.items

abbrev pub sorts_after : List Sort → List Compound → List Sort
sorts_after made [] = made
sorts_after made (c ∷ cs) = sorts_after (made ++ compound_sort made c ∷ []) cs

abbrev pub sorts_of : List Compound → List Sort
sorts_of = sorts_after []

-- a sort that may be made
abbrev pub Fits : List Sort → Compound → Type 0
Fits ss (Array i e) = IsSortId ss i × IsSortId ss e × IsFalse (is_array (sort_at ss i))
Fits ss (Declared n) = IsPlain n.items

abbrev pub IsBelow : ℕ → Compound → Type 0
IsBelow n (Array i e) = (i.0 < n) × (e.0 < n)
IsBelow n (Declared _) = Unit {0}

-- each sort stands behind its parts
pub record AreSorts (cs : List Compound) (ss : List Sort) : Type 0 where
  pub lengths : length ss ≡ length cs
  pub each : (k : ℕ) (c : Compound) → slice_get cs k ≡ Some c → get_or ss k bool ≡ compound_sort ss c
  pub below : (k : ℕ) (c : Compound) → slice_get cs k ≡ Some c → IsBelow (130 + k) c
  pub table : IsSortList ss
