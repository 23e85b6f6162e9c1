-- The subterms of terms.
use Rattle.std.proofs.Common.{◌≡◌, ℕ, zero, suc, ◌<◌, inl, inr, true, List, [], ◌∷◌, ◌++◌, map, length, get_or, All, ap, sym, ◌∙◌, subst, arith}
use Rattle.std.proofs.lemmas.List.{get_or-map, length-map}
use Rattle.std.proofs.lemmas.List.Elements.{All-head, All-tail}
use Rattle.smt_terms.specs.Equal.{term_eq}
use Rattle.smt_terms.specs.Groups.{has_term, with_new}
use Rattle.smt_terms.specs.Sorts.{Variable}
use Rattle.smt_terms.specs.Term.{Term, apply, quantified, Terms, none, ◌⨾◌, list, variable}
use Rattle.term_table.specs.Formulas.{no_tree, operands}
use Rattle.term_walk.specs.Subterms.{subterms, subterms_of, all_subterms, is_subterm}
use Rattle.term_walk.proofs.Members.{has-append, in_first, in_second, in_either, has-one, is-one, has-at, place-of}
use Rattle.smt_terms.proofs.Equal.{Decides-term_eq}
use Rattle.smt_terms.proofs.Tests.{either_true}

pub itself : (t : Term) → has_term (subterms t) t ≡ true
itself (apply h ts) = in_second (subterms_of ts) (apply h ts ∷ []) (apply h ts) (has-one (apply h ts))
itself (quantified q xs body) = in_second (with_new (map variable xs) (subterms body)) (quantified q xs body ∷ []) (quantified q xs body) (has-one (quantified q xs body))

operands-in : (ts : Terms) (i : ℕ) → i < length (list ts) → has_term (subterms_of ts) (get_or (list ts) i no_tree) ≡ true
operands-in none i lt = absurd (omega arith)
operands-in (t ⨾ ts) zero lt = in_first (subterms t) (subterms_of ts) t (itself t)
operands-in (t ⨾ ts) (suc i) lt = in_second (subterms t) (subterms_of ts) (get_or (list ts) i no_tree) (operands-in ts i (omega arith))

-- a variable has no operands
no_operands : (xs : List Variable) (u : Term) → has_term (map variable xs) u ≡ true → length (operands u) ≡ 0
no_operands [] u h = absurd cc
no_operands (x ∷ xs) u h =
    let r = place-of (map variable (x ∷ xs)) u no_tree h in
    let lt : r.0 < length (x ∷ xs) = subst (λ (n : ℕ). r.0 < n) (length-map (x ∷ xs) variable) r.1 in
    let e = sym (get_or-map variable (x ∷ xs) r.0 x no_tree lt) ∙ r.2 in
    ap (λ t. length (operands t)) (sym e)

quantified-operand : (xs : List Variable) (body : Term) (i : ℕ) → i < length (map variable xs ++ body ∷ []) → has_term (with_new (map variable xs) (subterms body)) (get_or (map variable xs ++ body ∷ []) i no_tree) ≡ true
quantified-operand xs body i lt =
    let u = get_or (map variable xs ++ body ∷ []) i no_tree in
    let among : has_term (map variable xs ++ body ∷ []) u ≡ true = has-at (map variable xs ++ body ∷ []) i no_tree lt in
    elim (either_true (has_term (map variable xs) u) (has_term (body ∷ []) u) (sym (has-append (map variable xs) (body ∷ []) u) ∙ among)) [
      | inl e ↦ in_first (map variable xs) (subterms body) u e
      | inr e ↦ in_second (map variable xs) (subterms body) u (subst (λ (v : Term). has_term (subterms body) v ≡ true) (is-one body u e) (itself body))
    ]

abbrev Down : List Term → Type 0
Down us = (u : Term) (i : ℕ) → has_term us u ≡ true → i < length (operands u) → has_term us (get_or (operands u) i no_tree) ≡ true

mutual
  pub down : (t : Term) → Down (subterms t)
  down (apply h ts) u i in_all lt = elim (in_either (subterms_of ts) (apply h ts ∷ []) u in_all) [
    | inl e ↦ in_first (subterms_of ts) (apply h ts ∷ []) (get_or (operands u) i no_tree) (down_of ts u i e lt)
    | inr e ↦
        let same : apply h ts ≡ u = is-one (apply h ts) u e in
        let count : length (list ts) ≡ length (operands u) = ap (λ v. length (operands v)) same in
        subst (λ (v : Term). has_term (subterms (apply h ts)) (get_or (operands v) i no_tree) ≡ true) same
        (in_first (subterms_of ts) (apply h ts ∷ []) (get_or (list ts) i no_tree) (operands-in ts i (omega (arith, count))))
  ]
  down (quantified q xs body) u i in_all lt =
      let inner = with_new (map variable xs) (subterms body) in
      let v = get_or (operands u) i no_tree in
      elim (in_either inner (quantified q xs body ∷ []) u in_all) [
        | inl e ↦ in_first inner (quantified q xs body ∷ []) v (elim (in_either (map variable xs) (subterms body) u e) [
          | inl var ↦ let n = no_operands xs u var in absurd (omega (arith, n))
          | inr deep ↦ in_second (map variable xs) (subterms body) v (down body u i deep lt)
        ])
        | inr e ↦
            let same : quantified q xs body ≡ u = is-one (quantified q xs body) u e in
            let count : length (map variable xs ++ body ∷ []) ≡ length (operands u) = ap (λ w. length (operands w)) same in
            subst (λ (w : Term). has_term (subterms (quantified q xs body)) (get_or (operands w) i no_tree) ≡ true) same
            (in_first inner (quantified q xs body ∷ []) (get_or (map variable xs ++ body ∷ []) i no_tree) (quantified-operand xs body i (omega (arith, count))))
      ]

  down_of : (ts : Terms) → Down (subterms_of ts)
  down_of none u i in_all lt = absurd cc
  down_of (t ⨾ ts) u i in_all lt =
      let v = get_or (operands u) i no_tree in
      elim (in_either (subterms t) (subterms_of ts) u in_all) [
        | inl e ↦ in_first (subterms t) (subterms_of ts) v (down t u i e lt)
        | inr e ↦ in_second (subterms t) (subterms_of ts) v (down_of ts u i e lt)
      ]

pub all-down : (ts : List Term) → Down (all_subterms ts)
all-down [] u i in_all lt = absurd cc
all-down (t ∷ ts) u i in_all lt =
    let v = get_or (operands u) i no_tree in
    elim (in_either (subterms t) (all_subterms ts) u in_all) [
      | inl e ↦ in_first (subterms t) (all_subterms ts) v (down t u i e lt)
      | inr e ↦ in_second (subterms t) (all_subterms ts) v (all-down ts u i e lt)
    ]

-- a subterm of one of the terms is one of all
pub one-of : (ts : List Term) (i : ℕ) → i < length ts → (u : Term) → has_term (subterms (get_or ts i no_tree)) u ≡ true → is_subterm ts u ≡ true
one-of [] i lt u h = absurd (omega arith)
one-of (t ∷ ts) zero lt u h = in_first (subterms t) (all_subterms ts) u h
one-of (t ∷ ts) (suc i) lt u h = in_second (subterms t) (all_subterms ts) u (one-of ts i (omega arith) u h)

pub alone : (t u : Term) → is_subterm (t ∷ []) u ≡ true → has_term (subterms t) u ≡ true
alone t u h = elim (in_either (subterms t) [] u h) [ inl e ↦ e | inr e ↦ absurd cc ]

-- what holds of a term and goes down to operands holds of all subterms
module _ (P : Term → Type 0) (step : (u : Term) → P u → All P (operands u)) where
  last-holds : (xs : List Variable) (body : Term) → All P (map variable xs ++ body ∷ []) → P body
  last-holds [] body each = All-head P body [] each
  last-holds (x ∷ xs) body each = last-holds xs body (All-tail P (variable x) (map variable xs ++ body ∷ []) each)

  variable-holds : (xs : List Variable) (body : Term) → All P (map variable xs ++ body ∷ []) → (u : Term) → has_term (map variable xs) u ≡ true → P u
  variable-holds [] body each u h = absurd cc
  variable-holds (x ∷ xs) body each u h = elim (either_true (term_eq (variable x) u) (has_term (map variable xs) u) h) [
    | inl e ↦ subst P ((Decides-term_eq (variable x) u).0 e) (All-head P (variable x) (map variable xs ++ body ∷ []) each)
    | inr e ↦ variable-holds xs body (All-tail P (variable x) (map variable xs ++ body ∷ []) each) u e
  ]

  mutual
    pub below : (t : Term) → P t → (u : Term) → has_term (subterms t) u ≡ true → P u
    below (apply h ts) holds u among = elim (in_either (subterms_of ts) (apply h ts ∷ []) u among) [
      | inl e ↦ below_of ts (step (apply h ts) holds) u e
      | inr e ↦ subst P (is-one (apply h ts) u e) holds
    ]
    below (quantified q xs body) holds u among =
        let each : All P (map variable xs ++ body ∷ []) = step (quantified q xs body) holds in
        elim (in_either (with_new (map variable xs) (subterms body)) (quantified q xs body ∷ []) u among) [
          | inl e ↦ elim (in_either (map variable xs) (subterms body) u e) [
            | inl var ↦ variable-holds xs body each u var
            | inr deep ↦ below body (last-holds xs body each) u deep
          ]
          | inr e ↦ subst P (is-one (quantified q xs body) u e) holds
        ]

    below_of : (ts : Terms) → All P (list ts) → (u : Term) → has_term (subterms_of ts) u ≡ true → P u
    below_of none each u among = absurd cc
    below_of (t ⨾ ts) each u among = elim (in_either (subterms t) (subterms_of ts) u among) [
      | inl e ↦ below t (All-head P t (list ts) each) u e
      | inr e ↦ below_of ts (All-tail P t (list ts) each) u e
    ]

  pub all-below : (ts : List Term) → All P ts → (u : Term) → is_subterm ts u ≡ true → P u
  all-below [] each u among = absurd cc
  all-below (t ∷ ts) each u among = elim (in_either (subterms t) (all_subterms ts) u among) [
    | inl e ↦ below t (All-head P t ts each) u e
    | inr e ↦ all-below ts (All-tail P t ts each) u e
  ]
