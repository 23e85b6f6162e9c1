-- Keys that are no arrays, and the places at which they stand.
use Rattle.std.proofs.Common.{◌≡◌, ℕ, zero, suc, ◌+◌, Bool, true, false, cond, not, if◌then◌else◌, List, [], ◌∷◌, ◌++◌, map, length, Some, refl, ap, sym, ◌∙◌, subst, arith}
use Rattle.std.specs.Prelude.{All, position}
use Rattle.std.specs.List.{list_any, position_from}
use Rattle.std.proofs.lemmas.List.{map-append, length-map}
use Rattle.std.proofs.lemmas.List.Elements.{All-head, All-tail, All-push}
use Rattle.std.proofs.lemmas.Iterator.Adapters.{position_from-zero}
use Rattle.indexmap.specs.IndexSet.{insert_key}
use Rattle.smt_terms.specs.Sorts.{Sort}
use Rattle.smt_terms.specs.Values as plain
use Rattle.smt_terms.specs.Values.{is_value, every_pair, Pairs, no_pairs, pair}
use Rattle.smt_terms.proofs.Same.{same-back}
use Rattle.smt_terms.proofs.Tests.{alike_from, both_true}
use Rattle.smt_values.specs.FlatKeys.{flat_value, IsFlat, keys_of, AreKeysOf}
use Rattle.smt_values.specs.Places.{place_from}
use Rattle.smt_values.specs.Tables.{count, with_value_at, with_pair}
use Rattle.smt_values.specs.Valid.{HasKeys}
use Rattle.smt_values.specs.declared.flat_keys.FlatKey.{FlatKey}
use Rattle.smt_values.specs.declared.flat_keys.FlatKey.TheVariants.{Scalar, Element}
use Rattle.smt_values.specs.declared.value.Value.TheVariants.{Scalar as OfScalar, Element as OfElement}
use Rattle.smt_values.specs.contracts.flat_keys.FlatKeyPartialEq.TheImpl.{ghosts}
use Rattle.smt_values.proofs.Alike.{scalars_alike, elements_alike, kinds_are}

abbrev pub flat_eq : FlatKey → FlatKey → Bool
flat_eq = ghosts.eq

-- equal keys of one sort are those that are the same
pub flat_alike : (s : Sort) (sizes : plain.Sizes) (k j : FlatKey) → IsFlat k → IsFlat j → is_value s sizes (flat_value k) ≡ true → is_value s sizes (flat_value j) ≡ true
    → flat_eq k j ≡ plain.same s sizes (flat_value k) (flat_value j)
flat_alike s sizes (Scalar x) (Scalar y) p q h i = scalars_alike s sizes x y p q h i
flat_alike s sizes (Element m) (Element n) p q h i = elements_alike s sizes m n h
flat_alike s sizes (Scalar x) (Element n) p q h i = let kinds = kinds_are s sizes (OfScalar x) (OfElement n) h i in absurd cc
flat_alike s sizes (Element m) (Scalar y) p q h i = let kinds = kinds_are s sizes (OfElement m) (OfScalar y) h i in absurd cc

place_among : (s : Sort) (sizes : plain.Sizes) (k : FlatKey) (n : ℕ) (ks : List FlatKey) (ps : Pairs) → IsFlat k → is_value s sizes (flat_value k) ≡ true → All IsFlat ks → map flat_value ks ≡ keys_of ps → HasKeys s sizes ps
    → position_from (flat_eq k) n ks ≡ place_from n (plain.same s sizes) (flat_value k) ps
place_among s sizes k n [] no_pairs p h all e valid = refl
place_among s sizes k n [] (pair i v ps) p h all e valid = absurd cc
place_among s sizes k n (j ∷ ks) no_pairs p h all e valid = absurd cc
place_among s sizes k n (j ∷ ks) (pair i v ps) p h all e valid =
    let parts = both_true (is_value s sizes i) (every_pair (λ k _. is_value s sizes k) ps) valid in
    let first : flat_value j ≡ i = cc in
    let others : map flat_value ks ≡ keys_of ps = cc in
    let here : flat_eq k j ≡ plain.same s sizes i (flat_value k) =
    flat_alike s sizes k j p (All-head IsFlat j ks all) h (ap (is_value s sizes) first ∙ parts.0)
    ∙ alike_from (plain.same s sizes (flat_value k) (flat_value j)) (plain.same s sizes (flat_value j) (flat_value k)) (same-back s sizes (flat_value k) (flat_value j)) (same-back s sizes (flat_value j) (flat_value k))
    ∙ ap (λ u. plain.same s sizes u (flat_value k)) first in
    let next : n + 1 ≡ suc n = omega arith in
    let rest = ap (λ m. position_from (flat_eq k) m ks) next ∙ place_among s sizes k (suc n) ks ps p h (All-tail IsFlat j ks all) others parts.1 in
    λ r. cond (here r) (Some n) (rest r)

-- a key stands where it stands among the pairs
pub key_place : (s : Sort) (sizes : plain.Sizes) (k : FlatKey) (ks : List FlatKey) (ps : Pairs) → IsFlat k → is_value s sizes (flat_value k) ≡ true → AreKeysOf ps ks → HasKeys s sizes ps
    → position (flat_eq k) ks ≡ place_from 0 (plain.same s sizes) (flat_value k) ps
key_place s sizes k ks ps p h are valid = position_from-zero (flat_eq k) ks ∙ place_among s sizes k 0 ks ps p h are.held are.keys valid

count-keys_of : (ps : Pairs) → length (keys_of ps) ≡ count ps
count-keys_of no_pairs = refl
count-keys_of (pair k v ps) = let rest = count-keys_of ps in omega arith

-- there are as many keys as pairs
pub keys-count : (ps : Pairs) (ks : List FlatKey) → AreKeysOf ps ks → length ks ≡ count ps
keys-count ps ks are = sym (length-map ks flat_value) ∙ ap length are.keys ∙ count-keys_of ps

keys_of-push : (ps : Pairs) (k v : plain.Value) → keys_of (with_pair ps k v) ≡ keys_of ps ++ k ∷ []
keys_of-push no_pairs k v = refl
keys_of-push (pair j u ps) k v = ap (λ ks. j ∷ ks) (keys_of-push ps k v)

-- the keys with a new one behind them
pub keys-push : (ps : Pairs) (ks more : List FlatKey) (k : FlatKey) (u v : plain.Value) (b : Bool) → b ≡ not (list_any (flat_eq k) ks) → b ≡ true → more ≡ insert_key flat_eq ks k → flat_value k ≡ u → IsFlat k → AreKeysOf ps ks
    → AreKeysOf (with_pair ps u v) more
keys-push ps ks more k u v b is_new added e value flat are =
    let absent : list_any (flat_eq k) ks ≡ false = grind arith in
    let last : more ≡ ks ++ k ∷ [] = e ∙ ap (λ c. if c then ks else ks ++ k ∷ []) absent in
    subst (AreKeysOf (with_pair ps u v)) (sym last) (record {
      held = All-push IsFlat ks k are.held flat;
      keys = map-append flat_value ks (k ∷ []) ∙ (λ i. are.keys i ++ value i ∷ []) ∙ sym (keys_of-push ps u v);
    })

keys_of-set : (ps : Pairs) (i : ℕ) (v : plain.Value) → keys_of (with_value_at ps i v) ≡ keys_of ps
keys_of-set no_pairs i v = refl
keys_of-set (pair k u ps) zero v = refl
keys_of-set (pair k u ps) (suc i) v = ap (λ ks. k ∷ ks) (keys_of-set ps i v)

-- another value leaves the keys as they are
pub keys-set : (ps : Pairs) (i : ℕ) (v : plain.Value) (ks : List FlatKey) → AreKeysOf ps ks → AreKeysOf (with_value_at ps i v) ks
keys-set ps i v ks are = record { held = are.held; keys = are.keys ∙ sym (keys_of-set ps i v) }
