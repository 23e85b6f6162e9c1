-- How the logic stores a sort and a value.
use Rattle.std.proofs.Common.{◌≡◌, ◌≢◌, ℕ, Bool, List, refl, ap, arith}
use Rattle.std.specs.Coded.{Coded, code_by, coded×, coded_ℕ, coded_ℤ, coded_bool, coded_list}
use base.Stored.{Gv, gnil, gnum, gcons}
use Rattle.smt_terms.specs.Values.{Value, truth, whole, bits, element, table, Pairs, no_pairs, pair}
use Rattle.smt_values.specs.Tables.{Table}
use Rattle.smt_terms.specs.Sorts.{Name, Sort, bool, int, bit_vector, array, free_sort}

abbrev pub head : Gv → Gv
head gnil = gnil
head (gnum n) = gnil
head (gcons a b) = a

abbrev pub tail : Gv → Gv
tail gnil = gnil
tail (gnum n) = gnil
tail (gcons a b) = b

pub apart : (m n : ℕ) {a b : Gv} → gcons (gnum m) a ≡ gcons (gnum n) b → m ≢ n → ⊥
apart m n p other = other (cc)

abbrev pub coded_name : Coded Name
coded_name = coded_list coded_ℕ

abbrev pub sort_code : Sort → Gv
sort_code bool = gcons (gnum 0) gnil
sort_code int = gcons (gnum 1) gnil
sort_code (bit_vector w) = gcons (gnum 2) (gnum w)
sort_code (array i e) = gcons (gnum 3) (gcons (sort_code i) (sort_code e))
sort_code (free_sort n) = gcons (gnum 4) (coded_name.code n)

pub sort_inj : (x y : Sort) → sort_code x ≡ sort_code y → x ≡ y
sort_inj bool bool p = refl
sort_inj bool int p = absurd (apart 0 1 p (omega arith))
sort_inj bool (bit_vector _) p = absurd (apart 0 2 p (omega arith))
sort_inj bool (array _ _) p = absurd (apart 0 3 p (omega arith))
sort_inj bool (free_sort _) p = absurd (apart 0 4 p (omega arith))
sort_inj int bool p = absurd (apart 1 0 p (omega arith))
sort_inj int int p = refl
sort_inj int (bit_vector _) p = absurd (apart 1 2 p (omega arith))
sort_inj int (array _ _) p = absurd (apart 1 3 p (omega arith))
sort_inj int (free_sort _) p = absurd (apart 1 4 p (omega arith))
sort_inj (bit_vector v) bool p = absurd (apart 2 0 p (omega arith))
sort_inj (bit_vector v) int p = absurd (apart 2 1 p (omega arith))
sort_inj (bit_vector v) (bit_vector w) p = ap bit_vector (coded_ℕ.inj v w (ap tail p))
sort_inj (bit_vector v) (array _ _) p = absurd (apart 2 3 p (omega arith))
sort_inj (bit_vector v) (free_sort _) p = absurd (apart 2 4 p (omega arith))
sort_inj (array i e) bool p = absurd (apart 3 0 p (omega arith))
sort_inj (array i e) int p = absurd (apart 3 1 p (omega arith))
sort_inj (array i e) (bit_vector _) p = absurd (apart 3 2 p (omega arith))
sort_inj (array i e) (array j f) p = λ k. array (sort_inj i j (ap (λ g. head (tail g)) p) k) (sort_inj e f (ap (λ g. tail (tail g)) p) k)
sort_inj (array i e) (free_sort _) p = absurd (apart 3 4 p (omega arith))
sort_inj (free_sort m) bool p = absurd (apart 4 0 p (omega arith))
sort_inj (free_sort m) int p = absurd (apart 4 1 p (omega arith))
sort_inj (free_sort m) (bit_vector _) p = absurd (apart 4 2 p (omega arith))
sort_inj (free_sort m) (array _ _) p = absurd (apart 4 3 p (omega arith))
sort_inj (free_sort m) (free_sort n) p = ap free_sort (coded_name.inj m n (ap tail p))

abbrev pub coded_sort : Coded Sort
coded_sort = record { code = sort_code; inj = sort_inj }

abbrev pub coded_sorts : Coded (List Sort)
coded_sorts = coded_list coded_sort

-- ---- values

abbrev pub coded_bits : Coded (List Bool)
coded_bits = coded_list coded_bool

abbrev mutual
  pub value_code : Value → Gv
  value_code (truth b) = gcons (gnum 0) (coded_bool.code b)
  value_code (whole z) = gcons (gnum 1) (coded_ℤ.code z)
  value_code (bits bs) = gcons (gnum 2) (coded_bits.code bs)
  value_code (element i) = gcons (gnum 3) (gnum i)
  value_code (table d ps) = gcons (gnum 4) (gcons (value_code d) (pairs_code ps))

  pub pairs_code : Pairs → Gv
  pairs_code no_pairs = gcons (gnum 0) gnil
  pairs_code (pair k v ps) = gcons (gnum 1) (gcons (value_code k) (gcons (value_code v) (pairs_code ps)))

mutual
  pub value_inj : (x y : Value) → value_code x ≡ value_code y → x ≡ y
  value_inj (truth b) (truth b') p = ap truth (coded_bool.inj b b' (ap tail p))
  value_inj (truth _) (whole _) p = absurd (apart 0 1 p (omega arith))
  value_inj (truth _) (bits _) p = absurd (apart 0 2 p (omega arith))
  value_inj (truth _) (element _) p = absurd (apart 0 3 p (omega arith))
  value_inj (truth _) (table _ _) p = absurd (apart 0 4 p (omega arith))
  value_inj (whole _) (truth _) p = absurd (apart 1 0 p (omega arith))
  value_inj (whole z) (whole z') p = ap whole (coded_ℤ.inj z z' (ap tail p))
  value_inj (whole _) (bits _) p = absurd (apart 1 2 p (omega arith))
  value_inj (whole _) (element _) p = absurd (apart 1 3 p (omega arith))
  value_inj (whole _) (table _ _) p = absurd (apart 1 4 p (omega arith))
  value_inj (bits _) (truth _) p = absurd (apart 2 0 p (omega arith))
  value_inj (bits _) (whole _) p = absurd (apart 2 1 p (omega arith))
  value_inj (bits bs) (bits bs') p = ap bits (coded_bits.inj bs bs' (ap tail p))
  value_inj (bits _) (element _) p = absurd (apart 2 3 p (omega arith))
  value_inj (bits _) (table _ _) p = absurd (apart 2 4 p (omega arith))
  value_inj (element _) (truth _) p = absurd (apart 3 0 p (omega arith))
  value_inj (element _) (whole _) p = absurd (apart 3 1 p (omega arith))
  value_inj (element _) (bits _) p = absurd (apart 3 2 p (omega arith))
  value_inj (element i) (element i') p = ap element (coded_ℕ.inj i i' (ap tail p))
  value_inj (element _) (table _ _) p = absurd (apart 3 4 p (omega arith))
  value_inj (table _ _) (truth _) p = absurd (apart 4 0 p (omega arith))
  value_inj (table _ _) (whole _) p = absurd (apart 4 1 p (omega arith))
  value_inj (table _ _) (bits _) p = absurd (apart 4 2 p (omega arith))
  value_inj (table _ _) (element _) p = absurd (apart 4 3 p (omega arith))
  value_inj (table d ps) (table d' ps') p = λ k. table (value_inj d d' (ap (λ g. head (tail g)) p) k) (pairs_inj ps ps' (ap (λ g. tail (tail g)) p) k)

  pub pairs_inj : (x y : Pairs) → pairs_code x ≡ pairs_code y → x ≡ y
  pairs_inj no_pairs no_pairs p = refl
  pairs_inj no_pairs (pair _ _ _) p = absurd (apart 0 1 p (omega arith))
  pairs_inj (pair _ _ _) no_pairs p = absurd (apart 1 0 p (omega arith))
  pairs_inj (pair k v ps) (pair k' v' ps') p =
      λ i. pair (value_inj k k' (ap (λ g. head (tail g)) p) i) (value_inj v v' (ap (λ g. head (tail (tail g))) p) i) (pairs_inj ps ps' (ap (λ g. tail (tail (tail g))) p) i)

abbrev pub coded_value : Coded Value
coded_value = record { code = value_code; inj = value_inj }

abbrev pub coded_pairs : Coded Pairs
coded_pairs = record { code = pairs_code; inj = pairs_inj }

abbrev pub coded_table : Coded Table
coded_table = code_by (Value × Pairs) (coded× coded_value coded_pairs) (λ t. (t.fallback, t.pairs)) (λ p. record { fallback = p.0; pairs = p.1 }) (λ _. refl)
