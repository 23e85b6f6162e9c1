-- Rows that are found by hashing.
use Rattle.std.proofs.Common.{◌≡◌, ◌∙◌, sym, ap, refl, ℕ, zero, suc, ◌+◌, ◌<◌, Bool, true, false, cond, ◌&&◌, ◌||◌, List, [], ◌∷◌, map, length, get_or, Option, Some, None, is_some, arith}
use Rattle.std.specs.Prelude.{All, position}
use Rattle.std.specs.List.{list_any, list_all, position_from}
use Rattle.std.proofs.lemmas.List.{length-map, get_or-map}
use Rattle.std.proofs.lemmas.List.Elements.{All-head, All-tail}
use Rattle.std.proofs.lemmas.List.Quantifiers.{position-Some}
use Rattle.std.proofs.lemmas.Iterator.Adapters.{position_from-zero}
use lib.Pointwise.{pointwise}
use Rattle.smallvec.specs.SmallVec.{SmallVec}
use Rattle.smt_terms.specs.Models.{Row, Graph, row_value, graph_value}
use Rattle.smt_terms.specs.Sorts.{Sort}
use Rattle.smt_terms.specs.Values.{Value as PlainValue, Sizes, same, all_same, is_value, are_values}
use Rattle.smt_terms.proofs.Same.{same-back}
use Rattle.smt_terms.proofs.Tests.{alike_from, both_true}
use Rattle.smt_values.specs.FlatKeys.{flat_value, IsFlat}
use Rattle.smt_values.proofs.FlatKeys.{flat_alike}
use Rattle.smt_values.specs.Meaning.{meaning}
use Rattle.models.specs.GraphRows.{row_of, rows_of, HaveKeys, has_row}
use Rattle.models.specs.declared.graph.Row.{Row as HeldRow}
use Rattle.models.specs.RowKeys.{flat_values, AreFlat, AreKeys, AreKeysOf, keys_of, row_place}
use Rattle.models.specs.declared.row_keys.RowKey.{RowKey}
use Rattle.models.specs.contracts.row_keys.RowKeyPartialEq.TheImpl.{ghosts}

abbrev key_eq : RowKey → RowKey → Bool
key_eq = ghosts.eq

abbrev keys_eq : SmallVec RowKey → SmallVec RowKey → Bool
keys_eq ks js = pointwise key_eq ks.items js.items

module _ (sizes : Sizes) where
  key_alike : (s : Sort) (k j : RowKey) → IsFlat k.0 → IsFlat j.0 → is_value s sizes (flat_value k.0) ≡ true → is_value s sizes (flat_value j.0) ≡ true → key_eq k j ≡ same s sizes (flat_value j.0) (flat_value k.0)
  key_alike s k j p q h i =
      flat_alike s sizes k.0 j.0 p q h i
      ∙ alike_from (same s sizes (flat_value k.0) (flat_value j.0)) (same s sizes (flat_value j.0) (flat_value k.0)) (same-back s sizes (flat_value k.0) (flat_value j.0)) (same-back s sizes (flat_value j.0) (flat_value k.0))

  -- equal lists of keys of sorts are those that are the same
  keys_alike : (ss : List Sort) (ks js : List RowKey) → AreFlat ks → AreFlat js → are_values ss sizes (flat_values ks) ≡ true → are_values ss sizes (flat_values js) ≡ true → pointwise key_eq ks js ≡ all_same ss sizes (flat_values js) (flat_values ks)
  keys_alike [] [] [] p q h i = refl
  keys_alike [] (k ∷ ks) js p q h i = absurd cc
  keys_alike [] [] (j ∷ js) p q h i = absurd cc
  keys_alike (s ∷ ss) [] js p q h i = absurd cc
  keys_alike (s ∷ ss) (k ∷ ks) [] p q h i = absurd cc
  keys_alike (s ∷ ss) (k ∷ ks) (j ∷ js) p q h i =
      let a = both_true (is_value s sizes (flat_value k.0)) (are_values ss sizes (flat_values ks)) h in
      let b = both_true (is_value s sizes (flat_value j.0)) (are_values ss sizes (flat_values js)) i in
      let first = key_alike s k j (All-head (λ (x : RowKey). IsFlat x.0) k ks p) (All-head (λ (x : RowKey). IsFlat x.0) j js q) a.0 b.0 in
      let rest = keys_alike ss ks js (All-tail (λ (x : RowKey). IsFlat x.0) k ks p) (All-tail (λ (x : RowKey). IsFlat x.0) j js q) a.1 b.1 in
      λ r. first r && rest r

  module _ (ss : List Sort) (ks : SmallVec RowKey) (flat : AreFlat ks.items) (valid : are_values ss sizes (flat_values ks.items) ≡ true) where
    place_among : (n : ℕ) (kss : List (SmallVec RowKey)) (rs : List Row) → All (λ js. AreFlat js.items) kss → map (λ js. flat_values js.items) kss ≡ keys_of rs → HaveKeys ss sizes rs
        → position_from (keys_eq ks) n kss ≡ position_from (λ r. all_same ss sizes r.keys (flat_values ks.items)) n rs
    place_among n [] [] all e have = refl
    place_among n [] (r ∷ rs) all e have = absurd cc
    place_among n (js ∷ kss) [] all e have = absurd cc
    place_among n (js ∷ kss) (r ∷ rs) all e have =
        let parts = both_true (are_values ss sizes r.keys) (list_all (λ q. are_values ss sizes q.keys) rs) have in
        let first : flat_values js.items ≡ r.keys = cc in
        let others : map (λ is. flat_values is.items) kss ≡ keys_of rs = cc in
        let here : keys_eq ks js ≡ all_same ss sizes r.keys (flat_values ks.items) =
        keys_alike ss ks.items js.items flat (All-head (λ (is : SmallVec RowKey). AreFlat is.items) js kss all) valid (ap (are_values ss sizes) first ∙ parts.0)
        ∙ ap (λ vs. all_same ss sizes vs (flat_values ks.items)) first in
        let rest = place_among (n + 1) kss rs (All-tail (λ (is : SmallVec RowKey). AreFlat is.items) js kss all) others parts.1 in
        λ i. cond (here i) (Some n) (rest i)

-- a row stands where its keys stand
pub keys_place : (ss : List Sort) (sizes : Sizes) (ks : SmallVec RowKey) (vs : List PlainValue) (kss : List (SmallVec RowKey)) (rs : List Row) → AreKeys vs ks → are_values ss sizes vs ≡ true → AreKeysOf (keys_of rs) kss → HaveKeys ss sizes rs
    → position (keys_eq ks) kss ≡ row_place ss sizes vs rs
keys_place ss sizes ks vs kss rs keys valid are have =
    position_from-zero (keys_eq ks) kss
    ∙ place_among sizes ss ks keys.held (ap (are_values ss sizes) keys.keys ∙ valid) 0 kss rs are.held are.keys have
    ∙ ap (λ ws. row_place ss sizes ws rs) keys.keys

module _ {R : Type 0} where
  -- some place is found where some element passes
  place-any : (test : R → Bool) (n : ℕ) (rs : List R) → is_some (position_from test n rs) ≡ list_any test rs
  place-any test n [] = refl
  place-any test n (r ∷ rs) = by (test r) (place-any test (n + 1) rs)
    where
      by : (b : Bool) → is_some (position_from test (n + 1) rs) ≡ list_any test rs → is_some (cond b (Some n) (position_from test (n + 1) rs)) ≡ (b || list_any test rs)
      by true rest = refl
      by false rest = rest

-- there is a row with these keys where there is a place
pub has_row-place : (ss : List Sort) (sizes : Sizes) (vs : List PlainValue) (rs : List Row) → is_some (row_place ss sizes vs rs) ≡ has_row ss sizes vs rs
has_row-place ss sizes vs rs = place-any (λ r. all_same ss sizes r.keys vs) 0 rs

nowhere : (test : Row → Bool) (n : ℕ) (rs : List Row) (v : PlainValue) → position_from test n rs ≡ None → row_value test rs v ≡ v
nowhere test n [] v e = refl
nowhere test n (r ∷ rs) v e = by (test r) (nowhere test (n + 1) rs v) e
  where
    by : (b : Bool) → (position_from test (n + 1) rs ≡ None → row_value test rs v ≡ v) → cond {A = Option ℕ} b (Some n) (position_from test (n + 1) rs) ≡ None → cond b r.result (row_value test rs v) ≡ v
    by true rest e = absurd cc
    by false rest e = rest e

-- the value of a function at keys that no row has, and at those of the row at a place
pub value-nowhere : (ss : List Sort) (sizes : Sizes) (g : Graph) (vs : List PlainValue) → row_place ss sizes vs g.rows ≡ None → graph_value ss sizes g vs ≡ g.otherwise
value-nowhere ss sizes g vs e = nowhere (λ r. all_same ss sizes r.keys vs) 0 g.rows g.otherwise e

first-value : (test : Row → Bool) (rs : List Row) (i : ℕ) (d : Row) (v : PlainValue) → i < length rs → test (get_or rs i d) ≡ true → ((k : ℕ) → k < i → test (get_or rs k d) ≡ false) → row_value test rs v ≡ (get_or rs i d).result
first-value test [] i d v lt here before = absurd (omega arith)
first-value test (r ∷ rs) zero d v lt here before = ap (λ b. cond b r.result (row_value test rs v)) here
first-value test (r ∷ rs) (suc i) d v lt here before =
    ap (λ b. cond b r.result (row_value test rs v)) (before zero (omega arith)) ∙ first-value test rs i d v (omega arith) here (λ k less. before (suc k) (omega arith))

pub value-place : (ss : List Sort) (sizes : Sizes) (vs : List PlainValue) (rs : List HeldRow) (v : PlainValue) (i : ℕ) (r : HeldRow) → row_place ss sizes vs (rows_of rs) ≡ Some i → r ≡ get_or rs i r
    → graph_value ss sizes (record { rows = rows_of rs; otherwise = v }) vs ≡ meaning r.value
value-place ss sizes vs rs v i r e is =
    let test : Row → Bool = λ q. all_same ss sizes q.keys vs in
    let first = position-Some test (rows_of rs) i (row_of r) (position_from-zero test (rows_of rs) ∙ e) in
    let lt : i < length rs = omega (arith, first.0, length-map rs row_of) in
    first-value test (rows_of rs) i (row_of r) v first.0 first.1 first.2
    ∙ ap (λ (q : Row). q.result) (get_or-map row_of rs i r (row_of r) lt)
    ∙ ap (λ (q : HeldRow). meaning q.value) (sym is)
