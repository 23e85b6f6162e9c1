-- Rows with distinct keys are all first ones.
use Rattle.std.proofs.Common.{◌≡◌, Bool, true, false, ◌&&◌, ◌||◌, not, List, [], ◌∷◌, map, refl, ap, ◌∙◌}
use Rattle.std.specs.List.{list_any}
use Rattle.std.specs.Ordering.{int_eq}
use Rattle.smt_terms.specs.Models.{Row, NumberRow, distinct_rows, distinct_number_rows}
use Rattle.smt_terms.specs.Sorts.{Sort, int}
use Rattle.smt_terms.specs.Values.{Sizes, all_same, whole}
use Rattle.smt_terms.proofs.Tests.{both_true, both_false, not_true, or_false, and_true}
use Rattle.model_texts.specs.Tables.{rows_behind, first_rows}
use Rattle.model_texts.specs.ModelLines.{row_of}

module _ (args : List Sort) (sizes : Sizes) where
  -- none of the rows has the keys of an earlier one
  abbrev AreNew : List Row → List Row → Type 0
  AreNew earlier [] = Unit {0}
  AreNew earlier (r ∷ rows) = (list_any (λ (q : Row). all_same args sizes q.keys r.keys) earlier ≡ false) × AreNew earlier rows

  still_new : (q : Row) (earlier rows : List Row) → list_any (λ (r : Row). all_same args sizes q.keys r.keys) rows ≡ false → AreNew earlier rows → AreNew (q ∷ earlier) rows
  still_new q earlier [] other new = tt
  still_new q earlier (r ∷ rows) other new =
      let parts = both_false (all_same args sizes q.keys r.keys) (list_any (λ (r : Row). all_same args sizes q.keys r.keys) rows) other in (
        or_false (all_same args sizes q.keys r.keys) (list_any (λ (q : Row). all_same args sizes q.keys r.keys) earlier) parts.0 new.0,
        still_new q earlier rows parts.1 new.1,
      )

  all_kept : (earlier rows : List Row) → distinct_rows args sizes rows ≡ true → AreNew earlier rows → rows_behind args sizes earlier rows ≡ rows
  all_kept earlier [] distinct new = refl
  all_kept earlier (r ∷ rows) distinct new =
      let parts = both_true (not (list_any (λ (q : Row). all_same args sizes r.keys q.keys) rows)) (distinct_rows args sizes rows) distinct in
      let other = not_true (list_any (λ (q : Row). all_same args sizes r.keys q.keys) rows) parts.0 in
      rw new.0 (ap (λ rs. r ∷ rs) (all_kept (r ∷ earlier) rows parts.1 (still_new r earlier rows other new.1)))

  pub distinct_first : (rows : List Row) → distinct_rows args sizes rows ≡ true → first_rows args sizes rows ≡ rows
  distinct_first rows distinct = all_kept [] rows distinct (none_before rows)
    where
      none_before : (rows : List Row) → AreNew [] rows
      none_before [] = tt
      none_before (r ∷ rows) = (refl, none_before rows)

-- the same of rows of numbers
number_keys : (sizes : Sizes) (r : NumberRow) (rows : List NumberRow)
    → list_any (λ (q : Row). all_same (int ∷ []) sizes (whole r.key ∷ []) q.keys) (map row_of rows) ≡ list_any (λ (q : NumberRow). int_eq r.key q.key) rows
number_keys sizes r [] = refl
number_keys sizes r (q ∷ rows) =
    ap (λ b. b || list_any (λ (q : Row). all_same (int ∷ []) sizes (whole r.key ∷ []) q.keys) (map row_of rows)) (with_true (int_eq r.key q.key))
    ∙ ap (λ b. int_eq r.key q.key || b) (number_keys sizes r rows)
  where
    with_true : (b : Bool) → (b && true) ≡ b
    with_true true = refl
    with_true false = refl

pub distinct_numbers : (sizes : Sizes) (rows : List NumberRow) → distinct_number_rows rows ≡ true → distinct_rows (int ∷ []) sizes (map row_of rows) ≡ true
distinct_numbers sizes [] distinct = refl
distinct_numbers sizes (r ∷ rows) distinct =
    let parts = both_true (not (list_any (λ (q : NumberRow). int_eq r.key q.key) rows)) (distinct_number_rows rows) distinct in
    and_true (not (list_any (λ (q : Row). all_same (int ∷ []) sizes (whole r.key ∷ []) q.keys) (map row_of rows))) (distinct_rows (int ∷ []) sizes (map row_of rows))
    (ap not (number_keys sizes r rows) ∙ parts.0) (distinct_numbers sizes rows parts.1)
