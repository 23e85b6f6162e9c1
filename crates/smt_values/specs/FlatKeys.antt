-- Keys of arrays that are no arrays, and those that all keys of an array are.
use Rattle.std.specs.Prelude.{◌≡◌, List, [], ◌∷◌, map, All}
use Rattle.smt_terms.specs.Values.{Value, element, Pairs, no_pairs, pair}
use Rattle.smt_values.specs.Meaning.{scalar_value, IsScalar}
use Rattle.smt_values.specs.declared.flat_keys.FlatKey.{FlatKey}
use Rattle.smt_values.specs.declared.flat_keys.FlatKey.TheVariants.{Scalar, Element}

abbrev pub flat_value : FlatKey → Value
flat_value (Scalar s) = scalar_value s
flat_value (Element i) = element i

-- a key whose scalar is in range
abbrev pub IsFlat : FlatKey → Type 0
IsFlat (Scalar s) = IsScalar s
IsFlat (Element i) = Unit {0}

abbrev pub keys_of : Pairs → List Value
keys_of no_pairs = []
keys_of (pair k v ps) = k ∷ keys_of ps

-- the keys of all pairs, each at the place of its pair
pub record AreKeysOf (ps : Pairs) (ks : List FlatKey) : Type 0 where
  pub held : All IsFlat ks
  pub keys : map flat_value ks ≡ keys_of ps
