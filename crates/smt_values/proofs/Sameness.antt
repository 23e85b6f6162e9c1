-- Sameness of arrays, pair by pair.
use Rattle.std.proofs.Common.{◌≡◌, ℕ, zero, suc, ◌<◌, ◌≤◌, Bool, true, false, cond, ◌&&◌, ◌||◌, List, [], ◌∷◌, length, get_or, Option, Some, None, refl, ap, sym, ◌∙◌, arith, true≢false, below_more, ◌-◌}
use Rattle.std.proofs.lemmas.Bool.{false_from_ne_true}
use Rattle.smt_terms.specs.Term.{universal}
use Rattle.std.specs.Prelude.{is_some}
use Rattle.smt_terms.specs.Sorts.{Name, Sort, array, free_sort}
use Rattle.smt_terms.specs.Values as plain
use Rattle.smt_terms.specs.Values.{Pairs, no_pairs, pair, is_key, value_at, every_pair, is_value, Sizes}
use Rattle.smt_terms.proofs.Tests.{both_true, and_true}
use Rattle.smt_terms.proofs.Same.{array_value}
use Rattle.smt_values.specs.Tables.{Table, as_value, pair_at}
use Rattle.smt_values.specs.Places.{place_from}
use Rattle.smt_values.specs.Meaning.{meaning, pairs_of}
use Rattle.smt_values.specs.Numbered.{last_number}
use Rattle.smt_values.specs.Valid.{HasKeys, agree_at, cover_at, has_number}
use Rattle.smt_values.specs.declared.value.Pair.{Pair}
use Rattle.smt_values.proofs.Numbered.{over_numbers, over_numbered, over_no_numbers}

keys_of_pairs : (i e : Sort) (sizes : Sizes) (ps : Pairs) → every_pair (λ k v. is_value i sizes k && is_value e sizes v) ps ≡ true → HasKeys i sizes ps
keys_of_pairs i e sizes no_pairs h = refl
keys_of_pairs i e sizes (pair k v ps) h =
    let parts = both_true (is_value i sizes k && is_value e sizes v) (every_pair (λ k v. is_value i sizes k && is_value e sizes v) ps) h in
    and_true (is_value i sizes k) (every_pair (λ k _. is_value i sizes k) ps) (both_true (is_value i sizes k) (is_value e sizes v) parts.0).0 (keys_of_pairs i e sizes ps parts.1)

-- an array's keys are of its index sort, and its default value of its element sort
pub table_keys : (i e : Sort) (sizes : Sizes) (t : Table) → is_value (array i e) sizes (as_value t) ≡ true → HasKeys i sizes t.pairs
table_keys i e sizes t h = keys_of_pairs i e sizes t.pairs (array_value i e sizes (as_value t) h).entries

pub table_fallback : (i e : Sort) (sizes : Sizes) (t : Table) → is_value (array i e) sizes (as_value t) ≡ true → is_value e sizes t.fallback ≡ true
table_fallback i e sizes t h = (array_value i e sizes (as_value t) h).default

pub key_valid : (i : Sort) (sizes : Sizes) (ps : List Pair) (k : ℕ) (p : Pair) → HasKeys i sizes (pairs_of ps) → k < length ps → p ≡ get_or ps k p → is_value i sizes (meaning p.key) ≡ true
key_valid i sizes [] k p h lt e = absurd (omega arith)
key_valid i sizes (q ∷ ps) zero p h lt e =
    ap (λ (x : Pair). is_value i sizes (meaning x.key)) e ∙ (both_true (is_value i sizes (meaning q.key)) (every_pair (λ k _. is_value i sizes k) (pairs_of ps)) h).0
key_valid i sizes (q ∷ ps) (suc k) p h lt e =
    let lt' : k < length ps = omega arith in
    key_valid i sizes ps k p (both_true (is_value i sizes (meaning q.key)) (every_pair (λ k _. is_value i sizes k) (pairs_of ps)) h).1 lt' e

-- ---- places

pub is_key-place : (n : ℕ) (alike : plain.Value → plain.Value → Bool) (k : plain.Value) (ps : Pairs) → is_some (place_from n alike k ps) ≡ is_key alike k ps
is_key-place n alike k no_pairs = refl
is_key-place n alike k (pair j v ps) = by (is_key-place (suc n) alike k ps) (alike j k)
  where
    by : is_some (place_from (suc n) alike k ps) ≡ is_key alike k ps → (b : Bool) → is_some (cond {A = Option ℕ} b (Some n) (place_from (suc n) alike k ps)) ≡ (b || is_key alike k ps)
    by rest true = refl
    by rest false = rest

-- what the array has at a key that stands at no place
pub value_at-nowhere : (n : ℕ) (alike : plain.Value → plain.Value → Bool) (k : plain.Value) (ps : Pairs) (d : plain.Value) → place_from n alike k ps ≡ None → value_at alike k ps d ≡ d
value_at-nowhere n alike k no_pairs d e = refl
value_at-nowhere n alike k (pair j v ps) d e = by (λ h. value_at-nowhere (suc n) alike k ps d h) (alike j k) e
  where
    by : (place_from (suc n) alike k ps ≡ None → value_at alike k ps d ≡ d) → (b : Bool) → cond {A = Option ℕ} b (Some n) (place_from (suc n) alike k ps) ≡ None → cond b v (value_at alike k ps d) ≡ d
    by rest true e = absurd (true≢false (ap is_some e))
    by rest false e = rest e

place_is : (m n : ℕ) → Some m ≡ Some n → m ≡ n
place_is m n e = cc

value_is : (j i v u : plain.Value) → ◌≡◌ {A = Option (plain.Value × plain.Value)} (Some (j, v)) (Some (i, u)) → v ≡ u
value_is j i v u e = let pairs : ◌≡◌ {A = plain.Value × plain.Value} (j, v) (i, u) = cc in ap (λ (p : plain.Value × plain.Value). p.1) pairs

-- and at one that stands at a place
pub value_at-place : (n m : ℕ) (alike : plain.Value → plain.Value → Bool) (k : plain.Value) (ps : Pairs) (d : plain.Value) → place_from n alike k ps ≡ Some m
    → (n ≤ m) × ((i u : plain.Value) → pair_at ps (m - n) ≡ Some (i, u) → value_at alike k ps d ≡ u)
value_at-place n m alike k no_pairs d e = absurd (true≢false (sym (ap is_some e)))
value_at-place n m alike k (pair j v ps) d e = by (λ h. value_at-place (suc n) m alike k ps d h) (alike j k) e
  where
    by : (place_from (suc n) alike k ps ≡ Some m → (suc n ≤ m) × ((i u : plain.Value) → pair_at ps (m - suc n) ≡ Some (i, u) → value_at alike k ps d ≡ u))
        → (b : Bool) → cond {A = Option ℕ} b (Some n) (place_from (suc n) alike k ps) ≡ Some m
        → (n ≤ m) × ((i u : plain.Value) → pair_at (pair j v ps) (m - n) ≡ Some (i, u) → cond b v (value_at alike k ps d) ≡ u)
    by rest true e =
        let same : n ≡ m = place_is n m e in
        let none : m - n ≡ 0 = omega arith in
        (omega arith, λ i u at. value_is j i v u (ap (pair_at (pair j v ps)) (sym none) ∙ at))
    by rest false e =
        let r = rest e in
        let low : suc n ≤ m = r.0 in
        let more : m - n ≡ suc (m - suc n) = omega arith in
        (omega arith, λ i u at. r.1 i u (ap (pair_at (pair j v ps)) (sym more) ∙ at))

-- ---- keys that are all values of the index sort

pub not_covered : (s : Sort) (sizes : Sizes) (a b : Table) → last_number s sizes ≡ None → false ≡ cover_at s sizes a b
unfolding cover_at
not_covered s sizes a b e = sym (over_no_numbers s sizes (λ k. is_key (plain.same s sizes) k a.pairs || is_key (plain.same s sizes) k b.pairs) e)

pub covered : (s : Sort) (sizes : Sizes) (a b : Table) (last : ℕ) → last_number s sizes ≡ Some last → ((n : ℕ) → n < last → has_number s sizes a b n ≡ true) → has_number s sizes a b last ≡ true → true ≡ cover_at s sizes a b
unfolding cover_at
covered s sizes a b last e before here =
    sym (over_numbered s sizes (λ k. is_key (plain.same s sizes) k a.pairs || is_key (plain.same s sizes) k b.pairs) last e (λ n le. below_more (λ n. has_number s sizes a b n ≡ true) last before here n (omega arith)))

pub uncovered : (s : Sort) (sizes : Sizes) (a b : Table) (last n : ℕ) → ((name : Name) → s ≡ free_sort name → 0 < sizes name) → last_number s sizes ≡ Some last → n ≤ last → has_number s sizes a b n ≡ false → false ≡ cover_at s sizes a b
unfolding cover_at
uncovered s sizes a b last n some e le none =
    sym (false_from_ne_true (plain.over_values universal s sizes (λ k. is_key (plain.same s sizes) k a.pairs || is_key (plain.same s sizes) k b.pairs))
    (λ all. true≢false (sym (over_numbers s sizes (λ k. is_key (plain.same s sizes) k a.pairs || is_key (plain.same s sizes) k b.pairs) last n some e all le) ∙ none)))

-- ---- two arrays

abbrev pub all_parts : Bool → Bool → Bool → Bool → Bool
all_parts p q c d = (p && q) && (c || d)

pub same_arrays : (s i e : Sort) (sizes : Sizes) (a b : Table) → s ≡ array i e
    → plain.same s sizes (as_value a) (as_value b) ≡ all_parts (agree_at i e sizes a.pairs a b) (agree_at i e sizes b.pairs a b) (cover_at i sizes a b) (plain.same e sizes a.fallback b.fallback)
unfolding cover_at
same_arrays s i e sizes a b h = ap (λ t. plain.same t sizes (as_value a) (as_value b)) h

pub first_differs : (p q c d : Bool) → p ≡ false → false ≡ all_parts p q c d
first_differs p q c d e = cc

pub second_differs : (p q c d : Bool) → p ≡ true → q ≡ false → false ≡ all_parts p q c d
second_differs p q c d e f = cc

pub defaults_same : (p q c d : Bool) → p ≡ true → q ≡ true → d ≡ true → true ≡ all_parts p q c d
defaults_same true true true d e f h = refl
defaults_same true true false d e f h = sym h
defaults_same false q c d e f h = absurd (true≢false (sym e))
defaults_same true false c d e f h = absurd (true≢false (sym f))

pub defaults_differ : (p q c d : Bool) → p ≡ true → q ≡ true → d ≡ false → c ≡ all_parts p q c d
defaults_differ true true true d e f h = refl
defaults_differ true true false d e f h = sym h
defaults_differ false q c d e f h = absurd (true≢false (sym e))
defaults_differ true false c d e f h = absurd (true≢false (sym f))
