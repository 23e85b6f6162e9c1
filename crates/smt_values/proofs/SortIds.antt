-- Numbers keep their sorts as a table grows, and a table of distinct sorts has one number for each.
use Rattle.std.proofs.Common.{◌≡◌, ℕ, ◌+◌, ◌-◌, ◌<◌, ◌≤◌, nat_lt, ◌==◌, Bool, true, false, if◌then◌else◌, ◌⊎◌, inl, inr, List, ◌++◌, length, get_or, refl, ap, sym, ◌∙◌, arith, true≢false}
use Rattle.std.proofs.lemmas.List.{get_or_append_left}
use Rattle.std.proofs.lemmas.Bool.{ltb-true, ltb-false}
use Rattle.std.proofs.lemmas.Bool.Decides.{nat_tests}
use Rattle.smt_terms.specs.Rank.{is_sort}
use Rattle.smt_terms.specs.Sorts.{Sort, bool, int, bit_vector}
use Rattle.smt_values.specs.SortIds.{sort_numbered, IsSortList, is_composed}

-- the sort at a place of the table has the number 130 more
pub sort_placed : (ss : List Sort) (n : ℕ) → sort_numbered ss (130 + n) ≡ get_or ss n bool
sort_placed ss n = grind arith

pub sort_stays : (ss ts : List Sort) (n : ℕ) → n < 130 + length ss → sort_numbered (ss ++ ts) n ≡ sort_numbered ss n
sort_stays ss ts n lt = grind (arith, get_or_append_left)

-- a number of a basic sort
unfoldable pub basic : ℕ → Sort
basic n = if n == 0 then bool else if n == 1 then int else bit_vector (n - 1)

pub sort_basic : (ss : List Sort) (n : ℕ) → n < 130 → sort_numbered ss n ≡ basic n
unfolding basic
sort_basic ss n lt = grind (arith, nat_tests)

basic_number : Sort → ℕ
basic_number bool = 0
basic_number int = 1
basic_number (bit_vector w) = w + 1
basic_number _ = 0

number-basic : (n : ℕ) → basic_number (basic n) ≡ n
unfolding basic basic_number
number-basic n = grind (arith, nat_tests)

basic_plain : (n : ℕ) → is_composed (basic n) ≡ false
unfolding basic
basic_plain n = grind (arith, nat_tests)

basic_sort : (n : ℕ) → n < 130 → is_sort (basic n) ≡ true
unfolding basic
basic_sort n lt = grind (arith, nat_tests)

pub placed : (n : ℕ) → (n < 130) ⊎ ((k : ℕ) × (n ≡ 130 + k))
placed n = by (nat_lt n 130) refl
  where
    by : (b : Bool) → nat_lt n 130 ≡ b → (n < 130) ⊎ ((k : ℕ) × (n ≡ 130 + k))
    by true e = inl (ltb-true n 130 e)
    by false e = let le : 130 ≤ n = ltb-false n 130 e in inr (n - 130, omega arith)

-- a basic sort isn't one of the table
apart : (ss : List Sort) → IsSortList ss → (n k : ℕ) → n < 130 → k < length ss → sort_numbered ss n ≡ get_or ss k bool → ⊥
apart ss table n k lt within e =
    true≢false (sym (table.composed k within) ∙ sym (ap is_composed (sym (sort_basic ss n lt) ∙ e)) ∙ basic_plain n)

-- in a table of distinct sorts each has one number
pub sort_one : (ss : List Sort) → IsSortList ss → (m n : ℕ) → m < 130 + length ss → n < 130 + length ss → sort_numbered ss m ≡ sort_numbered ss n → m ≡ n
sort_one ss table m n a b e = by (placed m) (placed n)
  where
    by : (m < 130) ⊎ ((k : ℕ) × (m ≡ 130 + k)) → (n < 130) ⊎ ((k : ℕ) × (n ≡ 130 + k)) → m ≡ n
    by (inl p) (inl q) = sym (number-basic m) ∙ ap basic_number (sym (sort_basic ss m p) ∙ e ∙ sort_basic ss n q) ∙ number-basic n
    by (inl p) (inr q) =
        let k : q.0 < length ss = omega arith in
        absurd (apart ss table m q.0 p k (e ∙ ap (sort_numbered ss) q.1 ∙ sort_placed ss q.0))
    by (inr p) (inl q) =
        let k : p.0 < length ss = omega arith in
        absurd (apart ss table n p.0 q k (sym e ∙ ap (sort_numbered ss) p.1 ∙ sort_placed ss p.0))
    by (inr p) (inr q) =
        let j : p.0 < length ss = omega arith in
        let k : q.0 < length ss = omega arith in
        let same : p.0 ≡ q.0 = table.distinct p.0 q.0 j k (sym (ap (sort_numbered ss) p.1 ∙ sort_placed ss p.0) ∙ e ∙ ap (sort_numbered ss) q.1 ∙ sort_placed ss q.0) in
        omega arith

-- the sort of a number is a sort
pub sort_is : (ss : List Sort) → IsSortList ss → (n : ℕ) → n < 130 + length ss → is_sort (sort_numbered ss n) ≡ true
sort_is ss table n lt = by (placed n)
  where
    by : (n < 130) ⊎ ((k : ℕ) × (n ≡ 130 + k)) → is_sort (sort_numbered ss n) ≡ true
    by (inl p) = ap is_sort (sort_basic ss n p) ∙ basic_sort n p
    by (inr p) =
        let k : p.0 < length ss = omega arith in
        ap is_sort (ap (sort_numbered ss) p.1 ∙ sort_placed ss p.0) ∙ table.sorts p.0 k
