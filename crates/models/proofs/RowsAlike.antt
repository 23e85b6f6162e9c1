-- Lists of values of sorts, one by one, and rows with such keys.
use Rattle.std.proofs.Common.{◌≡◌, ◌∙◌, sym, ap, subst, refl, ℕ, zero, suc, ◌<◌, Bool, true, List, [], ◌∷◌, map, length, All, drop, get_or, arith}
use Rattle.std.specs.List.{list_all}
use Rattle.std.proofs.lemmas.List.{length-map}
use Rattle.std.proofs.lemmas.List.Elements.{All-get_or}
use Rattle.smt_terms.specs.declared.ids.SortId.{SortId}
use Rattle.smt_terms.specs.Sorts.{Sort}
use Rattle.smt_terms.specs.Values.{Value as PlainValue, Sizes, all_same, is_value, are_values}
use Rattle.smt_terms.proofs.Tests.{both_true}
use Rattle.smt_values.specs.Meaning.{meaning, IsHeld}
use Rattle.smt_values.specs.Valid.{IsValue}
use Rattle.smt_values.specs.declared.value.Value.{Value}
use Rattle.models.specs.GraphRows.{meanings, rows_of, IsHeldRow, AreValues, HaveKeys}
use Rattle.models.specs.declared.graph.Row.{Row}

module _ (sizes : Sizes) where
  -- one value for each sort
  pub are_values-length : (ss : List Sort) (vs : List PlainValue) → are_values ss sizes vs ≡ true → length vs ≡ length ss
  are_values-length [] [] h = refl
  are_values-length [] (v ∷ vs) h = absurd cc
  are_values-length (s ∷ ss) [] h = absurd cc
  are_values-length (s ∷ ss) (v ∷ vs) h = ap suc (are_values-length ss vs (both_true (is_value s sizes v) (are_values ss sizes vs) h).1)

  module _ (f : SortId → Sort) where
    pub keys-length : (args : List SortId) (vs : List Value) → are_values (map f args) sizes (meanings vs) ≡ true → length vs ≡ length args
    keys-length args vs h = sym (length-map vs meaning) ∙ are_values-length (map f args) (meanings vs) h ∙ length-map args f

    -- the value at a place
    pub value_at_place : (args : List SortId) (vs : List Value) (i : ℕ) (s : SortId) (v : Value) → i < length args → are_values (map f args) sizes (meanings vs) ≡ true
        → is_value (f (get_or args i s)) sizes (meaning (get_or vs i v)) ≡ true
    value_at_place [] vs i s v within h = absurd (omega (arith, within))
    value_at_place (a ∷ args) [] i s v within h = absurd cc
    value_at_place (a ∷ args) (w ∷ vs) zero s v within h = (both_true (is_value (f a) sizes (meaning w)) (are_values (map f args) sizes (meanings vs)) h).0
    value_at_place (a ∷ args) (w ∷ vs) (suc i) s v within h =
        value_at_place args vs i s v (omega (arith, within)) (both_true (is_value (f a) sizes (meaning w)) (are_values (map f args) sizes (meanings vs)) h).1

    pub key_at : (args : List SortId) (vs : List Value) (i : ℕ) (s : SortId) (v : Value) → i < length args → AreValues (map f args) sizes vs → v ≡ get_or vs i v
        → IsValue (f (get_or args i s)) sizes v
    key_at args vs i s v within are is =
        let few : length vs ≡ length args = keys-length args vs are.valid in
        record {
          held = subst IsHeld (sym is) (All-get_or IsHeld vs i v (omega (arith, within, few)) are.held);
          valid = ap (λ x. is_value (f (get_or args i s)) sizes (meaning x)) is ∙ value_at_place args vs i s v within are.valid;
        }

    -- lists from a place on
    abbrev pub same_from : ℕ → List SortId → List Value → List Value → Bool
    same_from i args vs ws = all_same (map f (drop i args)) sizes (meanings (drop i vs)) (meanings (drop i ws))

-- ---- rows

module _ (args : List Sort) (sizes : Sizes) where
  keys_of_row : (rs : List Row) (i : ℕ) (d : Row) → i < length rs → HaveKeys args sizes (rows_of rs) → are_values args sizes (meanings (get_or rs i d).keys.items) ≡ true
  keys_of_row [] i d within h = absurd (omega (arith, within))
  keys_of_row (r ∷ rs) zero d within h = (both_true (are_values args sizes (meanings r.keys.items)) (list_all (λ q. are_values args sizes q.keys) (rows_of rs)) h).0
  keys_of_row (r ∷ rs) (suc i) d within h =
      keys_of_row rs i d (omega (arith, within)) (both_true (are_values args sizes (meanings r.keys.items)) (list_all (λ q. are_values args sizes q.keys) (rows_of rs)) h).1

  pub row_keys : (rs : List Row) (i : ℕ) (r : Row) → i < length rs → r ≡ get_or rs i r → All IsHeldRow rs → HaveKeys args sizes (rows_of rs) → AreValues args sizes r.keys.items
  row_keys rs i r within is held h = record {
    held = (subst IsHeldRow (sym is) (All-get_or IsHeldRow rs i r within held)).keys;
    valid = ap (λ x. are_values args sizes (meanings x.keys.items)) is ∙ keys_of_row rs i r within h;
  }
