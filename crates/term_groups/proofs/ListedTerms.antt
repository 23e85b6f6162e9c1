-- What holds of a listing in which nothing is skipped and below quantifiers nothing is looked at: what holds of the terms
-- that stood before, and is kept by each term that is added.
use Rattle.std.proofs.Common.{◌≡◌, ℕ, suc, ◌+◌, ◌≤◌, ◌⊎◌, inl, inr, Bool, true, false, cond, List, [], ◌∷◌, ◌++◌, All, refl, subst, arith}
use Rattle.std.proofs.lemmas.List.Elements.{All-nil, All-cons, All-head, All-tail}
use Rattle.smt_terms.specs.Groups.{has_term}
use Rattle.smt_terms.specs.Sorts.{Variable}
use Rattle.smt_terms.specs.Term.{Quantifier, Term, Head, apply, quantified, Terms, none, ◌⨾◌, list}
use Rattle.smt_terms.proofs.Tests.{contrary}
use Rattle.quantifier_forms.specs.Listing.{behind, listed_variables, listed, listed_each}
use Rattle.term_groups.specs.Parts.{operands_of}
use Rattle.term_groups.proofs.PartMembers.{has-before, has-last, before-or-last}

-- ---- the size of a term is more than that of each of its operands

abbrev mutual
  pub size : Term → ℕ
  size (apply h ts) = suc (sizes ts)
  size (quantified q xs body) = suc (size body)

  pub sizes : Terms → ℕ
  sizes none = 0
  sizes (t ⨾ ts) = size t + sizes ts

operands-smaller : (ts : Terms) → All (λ u. size u ≤ sizes ts) (list ts)
operands-smaller none = All-nil (λ u. size u ≤ 0)
operands-smaller (t ⨾ ts) = All-cons (λ u. size u ≤ size t + sizes ts) t (list ts) (omega arith) (λ i d lt. let rest = operands-smaller ts i d lt in omega (arith, rest))

smaller-operands : (n : ℕ) (t : Term) → size t ≤ n → All (λ u. size u ≤ n) (operands_of t)
smaller-operands n (apply h ts) within = λ i d lt. let each = operands-smaller ts i d lt in omega (arith, each, within)
smaller-operands n (quantified q xs body) within = All-nil (λ u. size u ≤ n)

module _ (opens : Term → Bool) where
  abbrev pub with_parts : Term → List Term → List Term
  with_parts t ts = listed (λ _. false) opens t ts

  abbrev pub with_parts_of : Terms → List Term → List Term
  with_parts_of us ts = listed_each (λ _. false) opens us ts

  abbrev pub added : List Term → List Term → Term → List Term
  added ts below t = behind (λ _. false) opens ts below t

  -- the term isn't among these, and its operands are where it is opened
  abbrev pub IsNext : List Term → Term → Type 0
  IsNext ts t = (has_term ts t ≡ false) × (opens t ≡ true → All (λ u. has_term ts u ≡ true) (operands_of t))

  module _ (closed : (q : Quantifier) (xs : List Variable) (t : Term) → opens (quantified q xs t) ≡ false) where
    -- ---- by what holds of each part

    module _ (Part : Term → Type 0) (down : (t : Term) → Part t → opens t ≡ true → All Part (operands_of t)) (Whole : List Term → Type 0) (grows : (ts : List Term) (t : Term) → Whole ts → Part t → Whole (ts ++ t ∷ [])) where
      behind-keeps : (ts below : List Term) (t : Term) → Part t → Whole ts → (opens t ≡ true → Whole below) → Whole (added ts below t)
      behind-keeps ts below t holds before deep = by (has_term ts t) (opens t) refl
        where
          by : (b c : Bool) → opens t ≡ c → Whole (cond b ts (cond c below ts ++ t ∷ []))
          by true c e = before
          by false true e = grows below t (deep e) holds
          by false false e = grows ts t before holds

      mutual
        pub listed-keeps : (t : Term) (ts : List Term) → Part t → Whole ts → Whole (with_parts t ts)
        listed-keeps (apply h us) ts holds before =
            behind-keeps ts (with_parts_of us ts) (apply h us) holds before (λ e. each-keeps us ts (down (apply h us) holds e) before)
        listed-keeps (quantified q xs body) ts holds before =
            behind-keeps ts (with_parts body (listed_variables (λ _. false) opens xs ts)) (quantified q xs body) holds before
            (λ e. contrary (opens (quantified q xs body)) e (closed q xs body))

        pub each-keeps : (us : Terms) (ts : List Term) → All Part (list us) → Whole ts → Whole (with_parts_of us ts)
        each-keeps none ts each before = before
        each-keeps (u ⨾ us) ts each before =
            each-keeps us (with_parts u ts) (All-tail Part u (list us) each) (listed-keeps u ts (All-head Part u (list us) each) before)

    -- ---- terms stay listed, and what is listed is there

    pub terms-stay : (us : Terms) (ts : List Term) (u : Term) → has_term ts u ≡ true → has_term (with_parts_of us ts) u ≡ true
    terms-stay us ts u there = each-keeps (λ _. Unit {0}) (λ _ _ _ _ _ _. tt) (λ vs. has_term vs u ≡ true) (λ vs v e _. has-before vs v u e) us ts (λ _ _ _. tt) there

    behind-there : (ts below : List Term) (t : Term) → has_term (added ts below t) t ≡ true
    behind-there ts below t = by (has_term ts t) refl (cond (opens t) below ts)
      where
        by : (b : Bool) → has_term ts t ≡ b → (us : List Term) → has_term (cond b ts (us ++ t ∷ [])) t ≡ true
        by true e us = e
        by false e us = has-last us t

    pub listed-there : (t : Term) (ts : List Term) → has_term (with_parts t ts) t ≡ true
    listed-there (apply h us) ts = behind-there ts (with_parts_of us ts) (apply h us)
    listed-there (quantified q xs body) ts = behind-there ts (with_parts body (listed_variables (λ _. false) opens xs ts)) (quantified q xs body)

    pub each-there : (us : Terms) (ts : List Term) → All (λ u. has_term (with_parts_of us ts) u ≡ true) (list us)
    each-there none ts = All-nil (λ u. has_term ts u ≡ true)
    each-there (u ⨾ us) ts =
        All-cons (λ v. has_term (with_parts_of (u ⨾ us) ts) v ≡ true) u (list us)
        (terms-stay us (with_parts u ts) u (listed-there u ts))
        (each-there us (with_parts u ts))

    -- ---- below a term only smaller ones are listed

    only-smaller : (us : Terms) (ts : List Term) (u : Term) → has_term (with_parts_of us ts) u ≡ true → (has_term ts u ≡ true) ⊎ (size u ≤ sizes us)
    only-smaller us ts u e =
        each-keeps (λ v. size v ≤ sizes us) (λ v within _. smaller-operands (sizes us) v within)
        (λ vs. has_term vs u ≡ true → (has_term ts u ≡ true) ⊎ (size u ≤ sizes us))
        (λ vs v before within there. elim (before-or-last vs v u there) [
          | inl earlier ↦ before earlier
          | inr same ↦ inr (subst (λ w. size w ≤ sizes us) same within)
        ])
        us ts (operands-smaller us) (λ there. inl there) e

    pub not-below : (h : Head) (us : Terms) (ts : List Term) → has_term ts (apply h us) ≡ false → has_term (with_parts_of us ts) (apply h us) ≡ false
    not-below h us ts new = by (has_term (with_parts_of us ts) (apply h us)) refl
      where
        by : (b : Bool) → has_term (with_parts_of us ts) (apply h us) ≡ b → b ≡ false
        by false e = refl
        by true e = elim (only-smaller us ts (apply h us) e) [
          | inl there ↦ contrary (has_term ts (apply h us)) there new
          | inr within ↦ absurd (omega (arith, within))
        ]

    -- ---- by the terms that stand before

    module _ (Whole : List Term → Type 0) (grows : (ts : List Term) (t : Term) → Whole ts → IsNext ts t → Whole (ts ++ t ∷ [])) where
      behind-extends : (ts below : List Term) (t : Term) → Whole ts → (opens t ≡ true → has_term ts t ≡ false → Whole below × IsNext below t) → Whole (added ts below t)
      behind-extends ts below t before deep = by (has_term ts t) refl (opens t) refl
        where
          by : (b : Bool) → has_term ts t ≡ b → (c : Bool) → opens t ≡ c → Whole (cond b ts (cond c below ts ++ t ∷ []))
          by true new c e = before
          by false new true e = let below_it = deep e new in grows below t below_it.0 below_it.1
          by false new false e = grows ts t before (new, λ opened. contrary (opens t) opened e)

      mutual
        pub listed-extends : (t : Term) (ts : List Term) → Whole ts → Whole (with_parts t ts)
        listed-extends (apply h us) ts before =
            behind-extends ts (with_parts_of us ts) (apply h us) before
            (λ opened new. (each-extends us ts before, (not-below h us ts new, λ _. each-there us ts)))
        listed-extends (quantified q xs body) ts before =
            behind-extends ts (with_parts body (listed_variables (λ _. false) opens xs ts)) (quantified q xs body) before
            (λ opened new. contrary (opens (quantified q xs body)) opened (closed q xs body))

        pub each-extends : (us : Terms) (ts : List Term) → Whole ts → Whole (with_parts_of us ts)
        each-extends none ts before = before
        each-extends (u ⨾ us) ts before = each-extends us (with_parts u ts) (listed-extends u ts before)
