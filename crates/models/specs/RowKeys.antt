-- The keys of rows that are no arrays, as they are found by hashing, and the place of a row.
use Rattle.std.specs.Prelude.{◌≡◌, ℕ, List, map, Option, All, IfSome}
use Rattle.std.specs.List.{position_from}
use Rattle.indexmap.specs.IndexSet.{IndexSet}
use Rattle.smallvec.specs.SmallVec.{SmallVec}
use Rattle.smt_terms.specs.Models.{Row}
use Rattle.smt_terms.specs.Sorts.{Sort}
use Rattle.smt_terms.specs.Values.{Value, Sizes, all_same}
use Rattle.smt_values.specs.FlatKeys.{flat_value, IsFlat}
use Rattle.models.specs.declared.row_keys.RowKey.{RowKey}

abbrev pub flat_values : List RowKey → List Value
flat_values ks = map (λ k. flat_value k.0) ks

-- keys whose scalars are in range
abbrev pub AreFlat : List RowKey → Type 0
AreFlat ks = All (λ k. IsFlat k.0) ks

-- the keys of one row
pub record AreKeys (vs : List Value) (ks : SmallVec RowKey) : Type 0 where
  pub held : AreFlat ks.items
  pub keys : flat_values ks.items ≡ vs

-- the keys of all rows, each at the place of its row
pub record AreKeysOf (rows : List (List Value)) (kss : List (SmallVec RowKey)) : Type 0 where
  pub held : All (λ ks. AreFlat ks.items) kss
  pub keys : map (λ ks. flat_values ks.items) kss ≡ rows

-- the same, where rows are found by hashing
abbrev pub ArePlacesOf : {S : Type 0} → List (List Value) → Option (IndexSet (SmallVec RowKey) S) → Type 0
ArePlacesOf rows places = IfSome places (λ s. AreKeysOf rows s.keys)

abbrev pub keys_of : List Row → List (List Value)
keys_of rs = map (λ r. r.keys) rs

-- the place of the first row with keys that are the same as these
abbrev pub row_place : List Sort → Sizes → List Value → List Row → Option ℕ
row_place args sizes ks rs = position_from (λ r. all_same args sizes r.keys ks) 0 rs
