-- The first rows of a list with one row more.
use Rattle.std.proofs.Common.{◌≡◌, ◌∙◌, sym, ap, refl, Bool, true, false, if◌then◌else◌, ◌&&◌, ◌||◌, List, [], ◌∷◌, ◌++◌, map}
use Rattle.std.specs.List.{list_any, list_all}
use Rattle.std.specs.Ordering.{int_eq}
use Rattle.smt_terms.specs.Models.{Row, Graph, NumberRow, NumberGraph}
use Rattle.smt_terms.specs.Operators.{first_value}
use Rattle.smt_terms.specs.Sorts.{Sort, int}
use Rattle.smt_terms.specs.Values.{Value, Sizes, number, all_same, is_value, are_values}
use Rattle.smt_terms.proofs.Tests.{both_true, and_true}
use Rattle.models.specs.GraphRows.{has_row, with_row, row_added}
use Rattle.models.specs.NumberRows.{number_row_added}
use Rattle.model_texts.specs.Tables.{rows_behind, first_rows}
use Rattle.model_texts.specs.ModelText.{with_first_rows, number_row, number_graph}

module _ (args : List Sort) (sizes : Sizes) where
  module _ (r : Row) where
    abbrev fits : Row → Bool
    fits q = all_same args sizes q.keys r.keys

    kept : (q : Row) (qs : List Row) (a b : Bool)
        → q ∷ (if (fits q || a) || b then qs else qs ++ r ∷ []) ≡ (if a || (fits q || b) then q ∷ qs else q ∷ qs ++ r ∷ [])
    kept q qs a b = by (fits q) a b
      where
        by : (f a b : Bool) → q ∷ (if (f || a) || b then qs else qs ++ r ∷ []) ≡ (if a || (f || b) then q ∷ qs else q ∷ qs ++ r ∷ [])
        by true true b = refl
        by true false b = refl
        by false true b = refl
        by false false true = refl
        by false false false = refl

    -- with the row, unless its keys are there
    abbrev with_one : List Row → List Row → List Row
    with_one earlier qs = if list_any fits earlier || has_row args sizes r.keys qs then qs else qs ++ r ∷ []

    one_behind : (rs earlier : List Row) → rows_behind args sizes earlier (rs ++ r ∷ []) ≡ with_one earlier (rows_behind args sizes earlier rs)
    one_behind [] earlier = by (list_any fits earlier)
      where
        by : (b : Bool) → (if b then [] else r ∷ []) ≡ (if b || false then [] else r ∷ [])
        by true = refl
        by false = refl
    one_behind (q ∷ rs) earlier = by (list_any (λ p. all_same args sizes p.keys q.keys) earlier) (one_behind rs earlier) (one_behind rs (q ∷ earlier))
      where
        by : (b : Bool)
            → rows_behind args sizes earlier (rs ++ r ∷ []) ≡ with_one earlier (rows_behind args sizes earlier rs)
            → rows_behind args sizes (q ∷ earlier) (rs ++ r ∷ []) ≡ with_one (q ∷ earlier) (rows_behind args sizes (q ∷ earlier) rs)
            → (if b then rows_behind args sizes earlier (rs ++ r ∷ []) else q ∷ rows_behind args sizes (q ∷ earlier) (rs ++ r ∷ []))
            ≡ with_one earlier (if b then rows_behind args sizes earlier rs else q ∷ rows_behind args sizes (q ∷ earlier) rs)
        by true same one = same
        by false same one =
            let qs = rows_behind args sizes (q ∷ earlier) rs in
            ap (λ ps. q ∷ ps) one ∙ kept q qs (list_any fits earlier) (has_row args sizes r.keys qs)

  -- the first rows are had by adding one row after the other
  pub first_rows_more : (rs : List Row) (r : Row) (otherwise : Value)
      → with_first_rows args sizes record { rows = rs ++ r ∷ []; otherwise = otherwise } ≡ row_added args sizes r.keys r.result (with_first_rows args sizes record { rows = rs; otherwise = otherwise })
  first_rows_more rs r otherwise =
      ap (λ (qs : List Row). record { rows = qs; otherwise = otherwise }) (one_behind r rs [])
      ∙ by (has_row args sizes r.keys (first_rows args sizes rs))
    where
      by : (b : Bool) → record { rows = if b then first_rows args sizes rs else first_rows args sizes rs ++ r ∷ []; otherwise = otherwise }
          ≡ (if b then record { rows = first_rows args sizes rs; otherwise = otherwise } else with_row r.keys r.result record { rows = first_rows args sizes rs; otherwise = otherwise })
      by true = refl
      by false = refl

  -- what every row has, every first row has
  pub first_rows_all : (test : Row → Bool) (rs earlier : List Row) → list_all test rs ≡ true → list_all test (rows_behind args sizes earlier rs) ≡ true
  first_rows_all test [] earlier h = refl
  first_rows_all test (r ∷ rs) earlier h =
      let parts = both_true (test r) (list_all test rs) h in
      by (list_any (λ q. all_same args sizes q.keys r.keys) earlier) (first_rows_all test rs earlier parts.1)
      (and_true (test r) (list_all test (rows_behind args sizes (r ∷ earlier) rs)) parts.0 (first_rows_all test rs (r ∷ earlier) parts.1))
    where
      by : (b : Bool) → list_all test (rows_behind args sizes earlier rs) ≡ true → list_all test (r ∷ rows_behind args sizes (r ∷ earlier) rs) ≡ true
          → list_all test (if b then rows_behind args sizes earlier rs else r ∷ rows_behind args sizes (r ∷ earlier) rs) ≡ true
      by true same one = same
      by false same one = one

-- ---- functions of whole numbers

module _ (sizes : Sizes) where
  abbrev pub has_number_key : Row → Bool
  has_number_key r = are_values (int ∷ []) sizes r.keys

  same_key : (ks js : List Value) → are_values (int ∷ []) sizes ks ≡ true → are_values (int ∷ []) sizes js ≡ true
      → int_eq (number (first_value ks)) (number (first_value js)) ≡ all_same (int ∷ []) sizes ks js
  same_key [] js h k = absurd cc
  same_key (v ∷ ks) [] h k = absurd cc
  same_key (v ∷ []) (w ∷ []) h k = by (int_eq (number v) (number w))
    where
      by : (b : Bool) → b ≡ (b && true)
      by true = refl
      by false = refl
  same_key (v ∷ []) (w ∷ j ∷ js) h k = absurd (no (both_true (is_value int sizes w) false k).1)
    where
      no : false ≡ true → ⊥
      no h = absurd cc
  same_key (v ∷ k ∷ ks) (w ∷ js) h _ = absurd (no (both_true (is_value int sizes v) false h).1)
    where
      no : false ≡ true → ⊥
      no h = absurd cc

  numbers_alike : (r : Row) (rs : List Row) → has_number_key r ≡ true → list_all has_number_key rs ≡ true
      → list_any (λ q. int_eq q.key (number (first_value r.keys))) (map number_row rs) ≡ has_row (int ∷ []) sizes r.keys rs
  numbers_alike r [] h k = refl
  numbers_alike r (q ∷ rs) h k =
      let parts = both_true (has_number_key q) (list_all has_number_key rs) k in
      ap (λ b. b || list_any (λ p. int_eq p.key (number (first_value r.keys))) (map number_row rs)) (same_key q.keys r.keys parts.0 h)
      ∙ ap (λ b. all_same (int ∷ []) sizes q.keys r.keys || b) (numbers_alike r rs h parts.1)

  map_more : (rs : List Row) (r : Row) → map number_row (rs ++ r ∷ []) ≡ map number_row rs ++ number_row r ∷ []
  map_more [] r = refl
  map_more (q ∷ rs) r = ap (λ qs. number_row q ∷ qs) (map_more rs r)

  abbrev number_row_for : Row → NumberRow
  number_row_for r = record { key = number (first_value r.keys); result = number r.result }

  chosen : (qs : List Row) (r : Row) (otherwise : Value) (b : Bool)
      → number_graph (if b then record { rows = qs; otherwise = otherwise } else with_row r.keys r.result record { rows = qs; otherwise = otherwise })
      ≡ (if b then record { rows = map number_row qs; otherwise = number otherwise } else record { rows = map number_row qs ++ number_row_for r ∷ []; otherwise = number otherwise })
  chosen qs r otherwise true = refl
  chosen qs r otherwise false = λ i. record { rows = map_more qs r i; otherwise = number otherwise }

  pub first_numbers_more : (rs : List Row) (r : Row) (otherwise : Value) → list_all has_number_key rs ≡ true → has_number_key r ≡ true
      → number_graph (with_first_rows (int ∷ []) sizes record { rows = rs ++ r ∷ []; otherwise = otherwise })
      ≡ number_row_added (number (first_value r.keys)) (number r.result) (number_graph (with_first_rows (int ∷ []) sizes record { rows = rs; otherwise = otherwise }))
  first_numbers_more rs r otherwise h k =
      let qs = first_rows (int ∷ []) sizes rs in
      ap number_graph (first_rows_more (int ∷ []) sizes rs r otherwise)
      ∙ chosen qs r otherwise (has_row (int ∷ []) sizes r.keys qs)
      ∙ ap (λ b. if b then record { rows = map number_row qs; otherwise = number otherwise } else record { rows = map number_row qs ++ number_row_for r ∷ []; otherwise = number otherwise })
      (sym (numbers_alike r qs k (first_rows_all (int ∷ []) sizes has_number_key rs [] h)))
