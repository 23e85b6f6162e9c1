-- Valid values: of a sort, with every scalar in range.
use Rattle.std.specs.Prelude.{ℕ, Bool, ◌&&◌, ◌||◌, IsTrue}
use Rattle.smt_terms.specs.Sorts.{Sort}
use Rattle.smt_terms.specs.Values.{Sizes, Pairs, every_pair, is_value, same, agree, cover, is_key}
use Rattle.smt_values.specs.Numbered.{numbered}
use Rattle.smt_values.specs.Tables.{Table, as_value}
use Rattle.smt_values.specs.Meaning.{meaning, IsHeld}
use Rattle.smt_values.specs.declared.value.Value.{Value}

pub record IsValue (s : Sort) (sizes : Sizes) (v : Value) : Type 0 where
  pub held : IsHeld v
  pub valid : IsTrue (is_value s sizes (meaning v))

-- pairs whose keys are of the index sort
abbrev pub HasKeys : Sort → Sizes → Pairs → Type 0
HasKeys index sizes ps = IsTrue (every_pair (λ k _. is_value index sizes k) ps)

-- pairs whose keys are of the index sort and whose values are of the element sort
abbrev pub HasPairs : Sort → Sort → Sizes → Pairs → Type 0
HasPairs index element sizes ps = IsTrue (every_pair (λ k v. is_value index sizes k && is_value element sizes v) ps)

-- two arrays agree at the keys of these pairs
abbrev pub agree_at : Sort → Sort → Sizes → Pairs → Table → Table → Bool
agree_at index element sizes ps a b = agree (same index sizes) (same element sizes) ps (as_value a) (as_value b)

-- the keys of two arrays are all values of the index sort
unfoldable pub cover_at : Sort → Sizes → Table → Table → Bool
cover_at index sizes a b = cover index sizes (same index sizes) a.pairs b.pairs

-- whether the value of this number is a key of either array
abbrev pub has_number : Sort → Sizes → Table → Table → ℕ → Bool
has_number index sizes a b n = is_key (same index sizes) (numbered index n) a.pairs || is_key (same index sizes) (numbered index n) b.pairs
