-- The pairs of an array, one by one.
use Rattle.std.proofs.Common.{◌≡◌, ℕ, zero, suc, ◌+◌, ◌<◌, Bool, true, false, cond, List, [], ◌∷◌, ◌++◌, length, get_or, take, Option, Some, None, refl, ap, sym, ◌∙◌, subst, arith, true≢false, ◌-◌, ◌≤◌}
use Rattle.std.proofs.lemmas.List.Elements.{All-get_or}
use Rattle.smt_terms.specs.Values as plain
use Rattle.smt_terms.specs.Values.{Pairs, no_pairs, pair, put}
use Rattle.smt_values.specs.Tables.{count, pair_at, with_value_at, with_pair, value_depth, pairs_depth}
use Rattle.smt_values.specs.Places.{place_from}
use Rattle.smt_values.specs.declared.value.Value.{Value}
use Rattle.std.specs.Prelude.{slice_set, is_some}
use Rattle.smt_values.specs.Meaning.{meaning, IsHeld, pairs_of, AreHeld}
use Rattle.smt_values.specs.declared.value.Pair.{Pair}

pub count-pairs_of : (ps : List Pair) → count (pairs_of ps) ≡ length ps
count-pairs_of [] = refl
count-pairs_of (p ∷ ps) = let e = count-pairs_of ps in omega arith

pub pair_at-pairs_of : (ps : List Pair) (i : ℕ) (p : Pair) → i < length ps → p ≡ get_or ps i p → pair_at (pairs_of ps) i ≡ Some (meaning p.key, meaning p.value)
pair_at-pairs_of [] i p lt e = absurd (omega arith)
pair_at-pairs_of (q ∷ ps) zero p lt e = ap (λ (x : Pair). Some (meaning x.key, meaning x.value)) (sym e)
pair_at-pairs_of (q ∷ ps) (suc i) p lt e = let lt' : i < length ps = omega arith in pair_at-pairs_of ps i p lt' e

pub held_at : (ps : List Pair) (i : ℕ) (p : Pair) → i < length ps → p ≡ get_or ps i p → AreHeld ps → IsHeld p.key × IsHeld p.value
held_at ps i p lt e held =
    let P : Pair → Type 0 = λ p. IsHeld p.key × IsHeld p.value in
    subst P (sym e) (All-get_or P ps i p lt held)

pub pairs_of-set : (ps : List Pair) (i : ℕ) (p : Pair) (v : Value) → i < length ps → p ≡ get_or ps i p → pairs_of (slice_set ps i (record { key = p.key; value = v })) ≡ with_value_at (pairs_of ps) i (meaning v)
pairs_of-set [] i p v lt e = absurd (omega arith)
pairs_of-set (q ∷ ps) zero p v lt e = ap (λ (x : Pair). pair (meaning x.key) (meaning v) (pairs_of ps)) e
pairs_of-set (q ∷ ps) (suc i) p v lt e = let lt' : i < length ps = omega arith in ap (pair (meaning q.key) (meaning q.value)) (pairs_of-set ps i p v lt' e)

pub pairs_of-push : (ps : List Pair) (p : Pair) → pairs_of (ps ++ p ∷ []) ≡ with_pair (pairs_of ps) (meaning p.key) (meaning p.value)
pairs_of-push [] p = refl
pairs_of-push (q ∷ ps) p = ap (pair (meaning q.key) (meaning q.value)) (pairs_of-push ps p)

-- a key that is there keeps its place, and a new one goes last
pub put-place : (n m : ℕ) (alike : plain.Value → plain.Value → Bool) (k v : plain.Value) (ps : Pairs) → place_from n alike k ps ≡ Some m → (n ≤ m) × (put alike k v ps ≡ with_value_at ps (m - n) v)
put-place n m alike k v no_pairs e = absurd (true≢false (sym (ap is_some e)))
put-place n m alike k v (pair j u ps) e = by (λ h. put-place (suc n) m alike k v ps h) (alike j k) e
  where
    by : (place_from (suc n) alike k ps ≡ Some m → (suc n ≤ m) × (put alike k v ps ≡ with_value_at ps (m - suc n) v)) → (b : Bool) → cond {A = Option ℕ} b (Some n) (place_from (suc n) alike k ps) ≡ Some m
        → (n ≤ m) × (cond b (pair j v ps) (pair j u (put alike k v ps)) ≡ with_value_at (pair j u ps) (m - n) v)
    by rest true e =
        let same : n ≡ m = cc in
        let none : m - n ≡ 0 = omega arith in
        (omega arith, sym (ap (λ i. with_value_at (pair j u ps) i v) none))
    by rest false e =
        let r = rest e in
        let low : suc n ≤ m = r.0 in
        let more : m - n ≡ suc (m - suc n) = omega arith in
        (omega arith, ap (pair j u) r.1 ∙ sym (ap (λ i. with_value_at (pair j u ps) i v) more))

pub put-nowhere : (n : ℕ) (alike : plain.Value → plain.Value → Bool) (k v : plain.Value) (ps : Pairs) → place_from n alike k ps ≡ None → put alike k v ps ≡ with_pair ps k v
put-nowhere n alike k v no_pairs e = refl
put-nowhere n alike k v (pair j u ps) e = by (λ h. put-nowhere (suc n) alike k v ps h) (alike j k) e
  where
    by : (place_from (suc n) alike k ps ≡ None → put alike k v ps ≡ with_pair ps k v) → (b : Bool) → cond {A = Option ℕ} b (Some n) (place_from (suc n) alike k ps) ≡ None → cond b (pair j v ps) (pair j u (put alike k v ps)) ≡ pair j u (with_pair ps k v)
    by rest true e = absurd (true≢false (ap is_some e))
    by rest false e = ap (pair j u) (rest e)

-- no key and no value is nested deeper than the pairs
pub depth_at : (ps : List Pair) (i : ℕ) (p : Pair) → i < length ps → p ≡ get_or ps i p → (value_depth (meaning p.key) ≤ pairs_depth (pairs_of ps)) × (value_depth (meaning p.value) ≤ pairs_depth (pairs_of ps))
depth_at [] i p lt e = absurd (omega arith)
depth_at (q ∷ ps) zero p lt e =
    let key : value_depth (meaning p.key) ≡ value_depth (meaning q.key) = ap (λ (x : Pair). value_depth (meaning x.key)) e in
    let value : value_depth (meaning p.value) ≡ value_depth (meaning q.value) = ap (λ (x : Pair). value_depth (meaning x.value)) e in
    (omega arith, omega arith)
depth_at (q ∷ ps) (suc i) p lt e = let lt' : i < length ps = omega arith in let r = depth_at ps i p lt' e in (omega (arith, r.0), omega (arith, r.1))

take_pair : (ps : List Pair) (i : ℕ) (p : Pair) → i < length ps → p ≡ get_or ps i p → pairs_of (take (suc i) ps) ≡ with_pair (pairs_of (take i ps)) (meaning p.key) (meaning p.value)
take_pair [] i p lt e = absurd (omega arith)
take_pair (q ∷ ps) zero p lt e = ap (λ (x : Pair). pair (meaning x.key) (meaning x.value) no_pairs) (sym e)
take_pair (q ∷ ps) (suc i) p lt e = let lt' : i < length ps = omega arith in ap (pair (meaning q.key) (meaning q.value)) (take_pair ps i p lt' e)

-- one pair more
pub pairs_of-take : (ps : List Pair) (i : ℕ) (p : Pair) → i < length ps → p ≡ get_or ps i p → pairs_of (take (i + 1) ps) ≡ with_pair (pairs_of (take i ps)) (meaning p.key) (meaning p.value)
pairs_of-take ps i p lt e = let one : i + 1 ≡ suc i = omega arith in ap (λ n. pairs_of (take n ps)) one ∙ take_pair ps i p lt e
