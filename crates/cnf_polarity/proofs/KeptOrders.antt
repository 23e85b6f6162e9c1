-- Terms that each stand once, and parts behind their operands, by their places.
use Rattle.std.proofs.Common.{◌≡◌, ℕ, zero, suc, ◌<◌, Bool, true, false, cond, ◌&&◌, List, [], ◌∷◌, ◌++◌, length, get_or, take, drop, filter, All, refl, ap, sym, ◌∙◌, subst, arith}
use Rattle.std.proofs.lemmas.List.{get_or-take, length-take-le}
use Rattle.smt_terms.specs.Equal.{term_eq}
use Rattle.smt_terms.specs.Groups.{has_term}
use Rattle.smt_terms.specs.Term.{Term, apply, quantified}
use Rattle.smt_terms.proofs.Equal.{Decides-term_eq}
use Rattle.smt_terms.proofs.Tests.{left_true, right_true}
use Rattle.term_groups.specs.Parts.{operands_of, AreParts}
use Rattle.term_table.specs.Formulas.{operands}
use Rattle.term_walk.proofs.Members.{has-at, has-filter, place-of}
use Rattle.cnf_polarity.specs.Shapes.{has_connective}

-- a list where it goes on after a place
split-at : (ts : List Term) (i : ℕ) (d : Term) → i < length ts → ts ≡ take i ts ++ get_or ts i d ∷ drop (suc i) ts
split-at [] i d lt = absurd (omega arith)
split-at (t ∷ ts) zero d lt = refl
split-at (t ∷ ts) (suc i) d lt = ap (λ us. t ∷ us) (split-at ts i d (omega arith))

-- ---- terms that each stand once

abbrev pub Once : List Term → Type 0
Once ts = (us : List Term) (t : Term) (vs : List Term) → ts ≡ us ++ t ∷ vs → has_term us t ≡ false

abbrev pub Apart : List Term → Type 0
Apart [] = Unit {0}
Apart (t ∷ ts) = (has_term ts t ≡ false) × Apart ts

not-true : (b : Bool) → (b ≡ true → ⊥) → b ≡ false
not-true true h = absurd (h refl)
not-true false h = refl

first-once : (t : Term) (ts : List Term) → Once (t ∷ ts) → has_term ts t ≡ false
first-once t ts once = not-true (has_term ts t) (λ e. again (place-of ts t t e))
  where
    again : (i : ℕ) × (i < length ts) × (get_or ts i t ≡ t) → ⊥
    again r =
        let is : t ∷ ts ≡ (t ∷ take r.0 ts) ++ t ∷ drop (suc r.0) ts = ap (λ us. t ∷ us) (split-at ts r.0 t r.1) ∙ ap (λ v. t ∷ (take r.0 ts ++ v ∷ drop (suc r.0) ts)) r.2 in
        let there : has_term (t ∷ take r.0 ts) t ≡ true = left_true (term_eq t t) (has_term (take r.0 ts) t) ((Decides-term_eq t t).1 refl) in
        let never : true ≡ false = sym there ∙ once (t ∷ take r.0 ts) t (drop (suc r.0) ts) is in
        absurd cc

others-once : (t : Term) (ts : List Term) → Once (t ∷ ts) → Once ts
others-once t ts once us u vs is = not-true (has_term us u) again
  where
    again : has_term us u ≡ true → ⊥
    again e =
        let never : true ≡ false = sym (right_true (term_eq t u) (has_term us u) e) ∙ once (t ∷ us) u vs (ap (λ ws. t ∷ ws) is) in
        absurd cc

pub once-apart : (ts : List Term) → Once ts → Apart ts
once-apart [] once = tt
once-apart (t ∷ ts) once = (first-once t ts once, once-apart ts (others-once t ts once))

pub apart-filter : (p : Term → Bool) (ts : List Term) → Apart ts → Apart (filter p ts)
apart-filter p [] a = tt
apart-filter p (t ∷ ts) a = by (apart-filter p ts a.1) (p t)
  where
    none-there : (b c : Bool) → b ≡ false → (b && c) ≡ false
    none-there false c e = refl
    none-there true c e = absurd cc

    by : Apart (filter p ts) → (b : Bool) → Apart (cond b (t ∷ filter p ts) (filter p ts))
    by rest true = (has-filter p ts t ∙ none-there (has_term ts t) (p t) a.0, rest)
    by rest false = rest

pub apart-places : (ts : List Term) (i j : ℕ) (d : Term) → Apart ts → i < j → j < length ts → get_or ts i d ≡ get_or ts j d → ⊥
apart-places [] i j d a less lt same = omega arith
apart-places (t ∷ ts) zero zero d a less lt same = omega arith
apart-places (t ∷ ts) zero (suc j) d a less lt same =
    let there : has_term ts t ≡ true = ap (has_term ts) same ∙ has-at ts j d (omega arith) in
    let c : true ≡ false = sym there ∙ a.0 in
    absurd cc
apart-places (t ∷ ts) (suc i) zero d a less lt same = omega arith
apart-places (t ∷ ts) (suc i) (suc j) d a less lt same = apart-places ts i j d a.1 (omega arith) (omega arith) same

-- ---- a part's operands stand before it

pub stands-before : (root : Term) (ts : List Term) (i : ℕ) (d : Term) → AreParts has_connective root ts → i < length ts → has_connective (get_or ts i d) ≡ true
    → (u : Term) → has_term (operands (get_or ts i d)) u ≡ true → (j : ℕ) × (j < i) × (get_or ts j d ≡ u)
stands-before root ts i d parts lt c u among =
    let before = parts.behind (take i ts) (get_or ts i d) (drop (suc i) ts) (split-at ts i d lt) c in
    let seen = place-of (operands (get_or ts i d)) u d among in
    let there : has_term (take i ts) u ≡ true = subst (λ v. has_term (take i ts) v ≡ true) seen.2 (same (get_or ts i d) c before seen.0 seen.1) in
    let found = place-of (take i ts) u d there in
    let count = length-take-le i ts (omega arith) in
    (found.0, omega (arith, count, found.1), sym (get_or-take i ts found.0 d (omega (arith, count, found.1))) ∙ found.2)
  where
    same : (t : Term) → has_connective t ≡ true → All (λ v. has_term (take i ts) v ≡ true) (operands_of t) → (k : ℕ) → k < length (operands t) → has_term (take i ts) (get_or (operands t) k d) ≡ true
    same (apply h us) c all k lt = all k d lt
    same (quantified q xs body) c all k lt = absurd cc
