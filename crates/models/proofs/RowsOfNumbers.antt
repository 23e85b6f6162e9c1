-- Rows of whole numbers, as a map keeps them.
use Rattle.std.proofs.Common.{◌≡◌, ◌∙◌, sym, ap, subst, refl, Bool, true, false, cond, not, if◌then◌else◌, ◌||◌, List, [], ◌∷◌, ◌++◌, ℤ, Option, Some, None, is_some, true≢false}
use Rattle.std.specs.List.{list_any, IsDistinct, AllByRecursion}
use Rattle.std.specs.Map.{lookup, keys_of}
use Rattle.std.specs.Ordering.{int_eq}
use Rattle.std.proofs.lemmas.Cmp.{int_eq_equiv}
use Rattle.std.proofs.lemmas.List.{map-append}
use Rattle.std.proofs.lemmas.Option.{same_Some}
use Rattle.std.proofs.lemmas.List.Elements.{All-head, All-tail}
use Rattle.indexmap.specs.IndexMap.{insert_entry}
use Rattle.indexmap.proofs.MapLemmas.{absent_from_lookup, insert_entry-absent}
use Rattle.smt_terms.specs.Models.{number_row_value, distinct_number_rows}
use Rattle.smt_terms.proofs.Tests.{and_true}
use Rattle.models.specs.NumberRows.{number_row_of, number_rows_of, IsWithin, AreWithin, number_row_added}

-- ---- the row of a number

module _ (n : ℤ) where
  -- the result of a number that has a row
  pub number_row_found : (rs : List (ℤ × ℤ)) (otherwise v : ℤ) → Some v ≡ lookup (int_eq n) rs → v ≡ number_row_value n (number_rows_of rs) otherwise
  number_row_found [] otherwise v h = absurd (true≢false (ap is_some h))
  number_row_found (r ∷ rs) otherwise v h = by (int_eq n r.0) (number_row_found rs otherwise v) h ∙ ap (λ b. cond b r.1 (number_row_value n (number_rows_of rs) otherwise)) (int_eq_equiv.symm n r.0)
    where
      by : (b : Bool) → (Some v ≡ lookup (int_eq n) rs → v ≡ number_row_value n (number_rows_of rs) otherwise) → Some v ≡ cond b (Some r.1) (lookup (int_eq n) rs)
          → v ≡ cond b r.1 (number_row_value n (number_rows_of rs) otherwise)
      by true rest g = same_Some v r.1 g
      by false rest g = rest g

  -- and of one that has none
  pub number_row_absent : (rs : List (ℤ × ℤ)) (otherwise : ℤ) → None ≡ lookup (int_eq n) rs → otherwise ≡ number_row_value n (number_rows_of rs) otherwise
  number_row_absent [] otherwise h = refl
  number_row_absent (r ∷ rs) otherwise h = by (int_eq n r.0) (number_row_absent rs otherwise) h ∙ ap (λ b. cond b r.1 (number_row_value n (number_rows_of rs) otherwise)) (int_eq_equiv.symm n r.0)
    where
      by : (b : Bool) → (None ≡ lookup (int_eq n) rs → otherwise ≡ number_row_value n (number_rows_of rs) otherwise) → None ≡ cond b (Some r.1) (lookup (int_eq n) rs)
          → otherwise ≡ cond b r.1 (number_row_value n (number_rows_of rs) otherwise)
      by true rest g = absurd (true≢false (sym (ap is_some g)))
      by false rest g = rest g

  pub found_within : (rs : List (ℤ × ℤ)) (v : ℤ) → Some v ≡ lookup (int_eq n) rs → AreWithin rs → IsWithin v
  found_within [] v h are = absurd (true≢false (ap is_some h))
  found_within (r ∷ rs) v h are = by (int_eq n r.0) (λ g. found_within rs v g (All-tail (λ q. IsWithin q.0 × IsWithin q.1) r rs are)) h
    where
      by : (b : Bool) → (Some v ≡ lookup (int_eq n) rs → IsWithin v) → Some v ≡ cond b (Some r.1) (lookup (int_eq n) rs) → IsWithin v
      by true rest g = subst IsWithin (sym (same_Some v r.1 g)) (All-head (λ q. IsWithin q.0 × IsWithin q.1) r rs are).1
      by false rest g = rest g

  -- whether a number has a row
  pub has_number_row : (rs : List (ℤ × ℤ)) → list_any (λ r. int_eq r.key n) (number_rows_of rs) ≡ is_some (lookup (int_eq n) rs)
  has_number_row [] = refl
  has_number_row (r ∷ rs) = ap (λ b. b || list_any (λ q. int_eq q.key n) (number_rows_of rs)) (int_eq_equiv.symm r.0 n) ∙ by (int_eq n r.0) (has_number_row rs)
    where
      by : (b : Bool) → list_any (λ q. int_eq q.key n) (number_rows_of rs) ≡ is_some (lookup (int_eq n) rs)
          → (b || list_any (λ q. int_eq q.key n) (number_rows_of rs)) ≡ is_some (cond b (Some r.1) (lookup (int_eq n) rs))
      by true rest = refl
      by false rest = rest

-- ---- a row more

nothing_there : (o : Option ℤ) → is_some o ≡ false → o ≡ None
nothing_there None h = refl
nothing_there (Some v) h = absurd (true≢false h)

-- a number without a row gets one behind the others
pub inserted_last : (key value k v : ℤ) (rs new : List (ℤ × ℤ)) → k ≡ key → v ≡ value → is_some (lookup (int_eq key) rs) ≡ false → new ≡ insert_entry int_eq rs k v → new ≡ rs ++ (key, value) ∷ []
inserted_last key value k v rs new same_key same_value absent h =
    h ∙ ap (λ n. insert_entry int_eq rs n v) same_key ∙ ap (insert_entry int_eq rs key) same_value
    ∙ insert_entry-absent int_eq key value rs (absent_from_lookup (int_eq key) rs (nothing_there (lookup (int_eq key) rs) absent))

pub number_row_last : (key value otherwise : ℤ) (rs : List (ℤ × ℤ)) → is_some (lookup (int_eq key) rs) ≡ false
    → record { rows = number_rows_of (rs ++ (key, value) ∷ []); otherwise = otherwise } ≡ number_row_added key value record { rows = number_rows_of rs; otherwise = otherwise }
number_row_last key value otherwise rs absent =
    ap (λ ss. record { rows = ss; otherwise = otherwise }) (map-append number_row_of rs ((key, value) ∷ []))
    ∙ ap (λ b. if b then record { rows = number_rows_of rs; otherwise = otherwise } else record { rows = number_rows_of rs ++ record { key = key; result = value } ∷ []; otherwise = otherwise })
    (sym (has_number_row key rs ∙ absent))

pub number_row_there : (key value otherwise : ℤ) (rs : List (ℤ × ℤ)) → is_some (lookup (int_eq key) rs) ≡ true
    → record { rows = number_rows_of rs; otherwise = otherwise } ≡ number_row_added key value record { rows = number_rows_of rs; otherwise = otherwise }
number_row_there key value otherwise rs present =
    ap (λ b. if b then record { rows = number_rows_of rs; otherwise = otherwise } else record { rows = number_rows_of rs ++ record { key = key; result = value } ∷ []; otherwise = otherwise })
    (sym (has_number_row key rs ∙ present))

-- ---- distinct rows

none_alike : (n : ℤ) (rs : List (ℤ × ℤ)) → AllByRecursion (λ m. int_eq n m ≡ false) (keys_of rs) → list_any (λ q. int_eq n q.key) (number_rows_of rs) ≡ false
none_alike n [] h = refl
none_alike n (r ∷ rs) h = ap (λ b. b || list_any (λ q. int_eq n q.key) (number_rows_of rs)) h.0 ∙ none_alike n rs h.1

pub rows_distinct : (rs : List (ℤ × ℤ)) → IsDistinct int_eq (keys_of rs) → distinct_number_rows (number_rows_of rs) ≡ true
unfolding IsDistinct
rows_distinct [] h = refl
rows_distinct (r ∷ rs) h =
    and_true (not (list_any (λ q. int_eq r.0 q.key) (number_rows_of rs))) (distinct_number_rows (number_rows_of rs)) (ap not (none_alike r.0 rs h.0)) (rows_distinct rs h.1)
