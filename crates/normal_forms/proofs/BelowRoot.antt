-- The subterms below a term: a walk over them alone costs less than one of the term itself.
use Rattle.std.proofs.Common.{◌≡◌, ℕ, suc, ◌+◌, ◌<◌, ◌≤◌, inl, inr, Bool, true, false, not, cond, ◌&&◌, ◌||◌, List, [], ◌∷◌, ◌++◌, map, length, filter, refl, ap, arith, All, append-nil}
use Rattle.std.proofs.lemmas.List.Elements.{All-cons, All-nil}
use Rattle.smt_terms.specs.Equal.{term_eq}
use Rattle.smt_terms.specs.Groups.{has_term, with_new}
use Rattle.smt_terms.specs.Sorts.{Variable}
use Rattle.smt_terms.specs.Term.{Quantifier, Term, apply, quantified, Terms, none, ◌⨾◌, list, variable}
use Rattle.smt_terms.proofs.Tests.{both_true}
use Rattle.term_table.specs.Formulas.{operands}
use Rattle.term_walk.specs.Subterms.{subterms, subterms_of, all_subterms, places}
use Rattle.term_walk.proofs.Below.{below}
use Rattle.term_walk.proofs.Members.{in_either}

-- ---- no term is one of the subterms of its operands

abbrev mutual
  size : Term → ℕ
  size (apply h ts) = suc (sizes ts)
  size (quantified q xs body) = suc (suc (size body))

  sizes : Terms → ℕ
  sizes none = 0
  sizes (t ⨾ ts) = size t + sizes ts

operands-smaller : (h : Terms) → All (λ w. size w ≤ sizes h) (list h)
operands-smaller none = All-nil (λ w. size w ≤ 0)
operands-smaller (t ⨾ ts) = All-cons (λ w. size w ≤ size t + sizes ts) t (list ts) (omega arith) (λ i d lt. let rest = operands-smaller ts i d lt in omega (arith, rest))

bound-smaller : (xs : List Variable) (body : Term) → All (λ w. size w ≤ suc (size body)) (map variable xs ++ body ∷ [])
bound-smaller [] body = All-cons (λ w. size w ≤ suc (size body)) body [] (omega arith) (All-nil (λ w. size w ≤ suc (size body)))
bound-smaller (x ∷ xs) body = All-cons (λ w. size w ≤ suc (size body)) (variable x) (map variable xs ++ body ∷ []) (omega arith) (bound-smaller xs body)

smaller : (u : Term) → All (λ w. size w < size u) (operands u)
smaller (apply h ts) i d lt = let each = operands-smaller ts i d lt in omega (arith, each)
smaller (quantified q xs body) i d lt = let each = bound-smaller xs body i d lt in omega (arith, each)

goes-down : (n : ℕ) (u : Term) → size u ≤ n → All (λ w. size w ≤ n) (operands u)
goes-down n u within i d lt = let each = smaller u i d lt in omega (arith, each, within)

refuted : (b : Bool) → (b ≡ true → ⊥) → b ≡ false
refuted true wrong = absurd (wrong refl)
refuted false wrong = refl

not-below : (h : Terms) (u : Term) → sizes h < size u → has_term (subterms_of h) u ≡ false
not-below none u less = refl
not-below (t ⨾ ts) u less = refuted (has_term (subterms_of (t ⨾ ts)) u) (λ among. elim (in_either (subterms t) (subterms_of ts) u among) [
  | inl e ↦ let within = below (λ w. size w ≤ size t) (goes-down (size t)) t (omega arith) u e in omega (arith, within, less)
  | inr e ↦ let rest = not-below ts u (omega (arith, less)) in absurd cc
])

no-binder : (xs : List Variable) (q : Quantifier) (ys : List Variable) (body : Term) → has_term (map variable xs) (quantified q ys body) ≡ false
no-binder [] q ys body = refl
no-binder (x ∷ xs) q ys body = no-binder xs q ys body

not-inside : (q : Quantifier) (xs : List Variable) (body : Term) → has_term (with_new (map variable xs) (subterms body)) (quantified q xs body) ≡ false
not-inside q xs body =
    let u = quantified q xs body in
    refuted (has_term (with_new (map variable xs) (subterms body)) u) (λ among. elim (in_either (map variable xs) (subterms body) u among) [
      | inl e ↦ let none_such = no-binder xs q xs body in absurd cc
      | inr e ↦ let within = below (λ w. size w ≤ size body) (goes-down (size body)) body (omega arith) u e in omega (arith, within)
    ])

-- ---- places

places-append : (us vs : List Term) → places (us ++ vs) ≡ places us + places vs
places-append [] vs = omega arith
places-append (u ∷ us) vs = let rest = places-append us vs in omega (arith, rest)

last-new : (us : List Term) (u : Term) → has_term us u ≡ false → places (with_new us (u ∷ [])) ≡ places us + suc (length (operands u))
last-new us u absent =
    let one : filter (λ w. not (has_term us w)) (u ∷ []) ≡ u ∷ [] = ap (λ b. cond (not b) (u ∷ []) []) absent in
    let whole = places-append us (filter (λ w. not (has_term us w)) (u ∷ [])) in
    let added = ap places one in
    omega (arith, whole, added)

-- fewer terms pass a stronger test
fewer : (p q : Term → Bool) (us : List Term) → ((w : Term) → p w ≡ true → q w ≡ true) → places (filter p us) ≤ places (filter q us)
fewer p q [] stronger = omega arith
fewer p q (u ∷ us) stronger = step (p u) (q u) (stronger u) (fewer p q us stronger)
  where
    step : (a b : Bool) → (a ≡ true → b ≡ true) → places (filter p us) ≤ places (filter q us) → places (cond a (u ∷ filter p us) (filter p us)) ≤ places (cond b (u ∷ filter q us) (filter q us))
    step true true h rest = omega (arith, rest)
    step true false h rest = let no = h refl in absurd cc
    step false true h rest = omega (arith, rest)
    step false false h rest = rest

filter-twice : (p n : Term → Bool) (us : List Term) → filter p (filter n us) ≡ filter (λ w. n w && p w) us
filter-twice p n [] = refl
filter-twice p n (u ∷ us) = step (n u) (filter-twice p n us)
  where
    chosen : (b : Bool) → filter p (filter n us) ≡ filter (λ w. n w && p w) us → cond b (u ∷ filter p (filter n us)) (filter p (filter n us)) ≡ cond b (u ∷ filter (λ w. n w && p w) us) (filter (λ w. n w && p w) us)
    chosen true rest = ap (λ vs. u ∷ vs) rest
    chosen false rest = rest

    step : (a : Bool) → filter p (filter n us) ≡ filter (λ w. n w && p w) us → filter p (cond a (u ∷ filter n us) (filter n us)) ≡ cond (a && p u) (u ∷ filter (λ w. n w && p w) us) (filter (λ w. n w && p w) us)
    step true rest = chosen (p u) rest
    step false rest = rest

filter-all : (us : List Term) → filter (λ w. true) us ≡ us
filter-all [] = refl
filter-all (u ∷ us) = ap (λ vs. u ∷ vs) (filter-all us)

-- of the variables of a quantifier and the subterms of its body each counts once, in either order
bound-places : (p : Term → Bool) (xs : List Variable) (body : Term) → places (filter p (all_subterms (map variable xs ++ body ∷ []))) ≤ places (filter p (map variable xs)) + places (filter (λ w. not (has_term (map variable xs) w) && p w) (subterms body))
bound-places p [] body =
    let same = ap (λ us. places (filter p us)) (append-nil (subterms body)) in
    omega (arith, same)
bound-places p (x ∷ xs) body =
    let v = variable x in
    let new : Term → Bool = λ w. not (has_term (v ∷ []) w) in
    let inner = all_subterms (map variable xs ++ body ∷ []) in
    let rest = bound-places (λ w. new w && p w) xs body in
    let twice = ap places (filter-twice p new inner) in
    let variables = fewer (λ w. new w && p w) p (map variable xs) (λ w h. (both_true (new w) (p w) h).1) in
    let others = fewer (λ w. not (has_term (map variable xs) w) && (new w && p w)) (λ w. not (has_term (v ∷ map variable xs) w) && p w) (subterms body) (λ w h. joined (term_eq v w) (has_term (map variable xs) w) (p w) h) in
    first (filter p (filter new inner)) (filter p (map variable xs))
    (places (filter (λ w. not (has_term (map variable xs) w) && (new w && p w)) (subterms body)))
    (places (filter (λ w. not (has_term (v ∷ map variable xs) w) && p w) (subterms body))) (p v) (omega (arith, rest, twice, variables)) others
  where
    joined : (e h q : Bool) → (not h && (not (e || false) && q)) ≡ true → (not (e || h) && q) ≡ true
    joined true true q k = absurd cc
    joined true false q k = absurd cc
    joined false true q k = absurd cc
    joined false false q k = k

    first : (us vs : List Term) (k l : ℕ) (b : Bool) → places us ≤ places vs + k → k ≤ l → places (cond b (variable x ∷ us) us) ≤ places (cond b (variable x ∷ vs) vs) + l
    first us vs k l true within more = omega (arith, within, more)
    first us vs k l false within more = omega (arith, within, more)

each-below : (ts : Terms) → all_subterms (list ts) ≡ subterms_of ts
each-below none = refl
each-below (t ⨾ ts) = ap (with_new (subterms t)) (each-below ts)

-- the term itself counts beside what is below its operands
pub below-places : (u : Term) → places (all_subterms (operands u)) + 1 ≤ places (all_subterms (u ∷ []))
below-places (apply h ts) =
    let u = apply h ts in
    let alone = ap places (append-nil (subterms u)) in
    let whole = last-new (subterms_of ts) u (not-below ts u (omega arith)) in
    let same = ap places (each-below ts) in
    omega (arith, alone, whole, same)
below-places (quantified q xs body) =
    let u = quantified q xs body in
    let alone = ap places (append-nil (subterms u)) in
    let vs = map variable xs in
    let all : Term → Bool = λ w. true in
    let new : Term → Bool = λ w. not (has_term vs w) in
    let whole = last-new (with_new vs (subterms body)) u (not-inside q xs body) in
    let inside = places-append vs (filter new (subterms body)) in
    let each = bound-places all xs body in
    let kept = ap places (filter-all (all_subterms (operands u))) in
    let names = ap places (filter-all vs) in
    let others = fewer (λ w. new w && all w) new (subterms body) (λ w h. (both_true (new w) (all w) h).0) in
    omega (arith, alone, whole, inside, each, kept, names, others)
