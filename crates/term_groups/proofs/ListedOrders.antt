-- A listing in which nothing is skipped stands in an order in which each term is once there, behind its operands where it
-- is opened.
use Rattle.std.proofs.Common.{◌≡◌, ◌⊎◌, inl, inr, Bool, true, false, List, [], ◌∷◌, ◌++◌, All, refl, ap, sym, ◌∙◌, subst}
use Rattle.std.proofs.lemmas.List.Elements.{All-weaker}
use Rattle.smt_terms.specs.Groups.{has_term}
use Rattle.smt_terms.specs.Sorts.{Variable}
use Rattle.smt_terms.specs.Term.{Quantifier, Term, quantified}
use Rattle.term_groups.specs.Parts.{operands_of}
use Rattle.term_groups.proofs.ListedTerms.{with_parts, IsNext, listed-extends}
use Rattle.term_groups.proofs.PartMembers.{has-before, before-or-last}

-- the term stands in the first list behind the second
Stands : List Term → List Term → Term → Type 0
Stands ts us t = (vs : List Term) × (ts ≡ us ++ t ∷ vs)

first-same : (t u : Term) (ts us : List Term) → t ∷ ts ≡ u ∷ us → (t ≡ u) × (ts ≡ us)
first-same t u ts us e = (ap (first t) e, ap rest e)
  where
    first : Term → List Term → Term
    first d [] = d
    first d (v ∷ vs) = v

    rest : List Term → List Term
    rest [] = []
    rest (v ∷ vs) = vs

none-more : (us : List Term) (t : Term) (vs : List Term) → [] ≡ us ++ t ∷ vs → ⊥
none-more [] t vs e = absurd cc
none-more (u ∷ us) t vs e = absurd cc

-- a term of a list with one more at the end stands before the end, or is the last
stands-before : (ts : List Term) (w : Term) (us : List Term) (t : Term) (vs : List Term) → ts ++ w ∷ [] ≡ us ++ t ∷ vs → Stands ts us t ⊎ ((ts ≡ us) × (w ≡ t))
unfolding Stands
stands-before [] w [] t vs e = inr (refl, (first-same w t [] vs e).0)
stands-before [] w (u ∷ us) t vs e = absurd (none-more us t vs (first-same w u [] (us ++ t ∷ vs) e).1)
stands-before (v ∷ ts) w [] t vs e = inl (ts, ap (λ x. x ∷ ts) (first-same v t (ts ++ w ∷ []) vs e).0)
stands-before (v ∷ ts) w (u ∷ us) t vs e =
    let parts = first-same v u (ts ++ w ∷ []) (us ++ t ∷ vs) e in
    elim (stands-before ts w us t vs parts.1) [
      | inl before ↦ inl (before.0, λ i. parts.0 i ∷ before.1 i)
      | inr last ↦ inr ((λ i. parts.0 i ∷ last.0 i), last.1)
    ]

-- ---- each term behind its operands, and once

module _ (opens : Term → Bool) where
  abbrev pub IsBehind : List Term → Type 0
  IsBehind ts = (us : List Term) (t : Term) (vs : List Term) → ts ≡ us ++ t ∷ vs → opens t ≡ true → All (λ u. has_term us u ≡ true) (operands_of t)

  none-behind : IsBehind []
  none-behind us t vs e opened = absurd (none-more us t vs e)

  behind-grows : (ts : List Term) (t : Term) → IsBehind ts → IsNext opens ts t → IsBehind (ts ++ t ∷ [])
  unfolding Stands
  behind-grows ts w before next us t vs e opened = elim (stands-before ts w us t vs e) [
    | inl there ↦ before us t there.0 there.1 opened
    | inr last ↦ subst (λ x. All (λ u. has_term x u ≡ true) (operands_of t)) last.0 (subst (λ x. opens x ≡ true → All (λ u. has_term ts u ≡ true) (operands_of x)) last.1 next.1 opened)
  ]

  abbrev pub IsOnce : List Term → Type 0
  IsOnce ts = (us : List Term) (t : Term) (vs : List Term) → ts ≡ us ++ t ∷ vs → has_term us t ≡ false

  none-once : IsOnce []
  none-once us t vs e = absurd (none-more us t vs e)

  once-grows : (ts : List Term) (t : Term) → IsOnce ts → IsNext opens ts t → IsOnce (ts ++ t ∷ [])
  unfolding Stands
  once-grows ts w before next us t vs e = elim (stands-before ts w us t vs e) [
    | inl there ↦ before us t there.0 there.1
    | inr last ↦ ap (λ x. has_term x t) (sym last.0) ∙ ap (has_term ts) (sym last.1) ∙ next.0
  ]

  -- ---- with each term that is opened its operands

  abbrev pub IsClosed : List Term → Type 0
  IsClosed ts = (t : Term) → has_term ts t ≡ true → opens t ≡ true → All (λ u. has_term ts u ≡ true) (operands_of t)

  pub none-closed : IsClosed []
  none-closed t there opened = absurd cc

  more-operands : (ts : List Term) (w t : Term) → All (λ u. has_term ts u ≡ true) (operands_of t) → All (λ u. has_term (ts ++ w ∷ []) u ≡ true) (operands_of t)
  more-operands ts w t each = All-weaker (λ u. has_term ts u ≡ true) (λ u. has_term (ts ++ w ∷ []) u ≡ true) (λ u e. has-before ts w u e) (operands_of t) each

  closed-grows : (ts : List Term) (t : Term) → IsClosed ts → IsNext opens ts t → IsClosed (ts ++ t ∷ [])
  closed-grows ts w before next t there opened = elim (before-or-last ts w t there) [
    | inl earlier ↦ more-operands ts w t (before t earlier opened)
    | inr same ↦ more-operands ts w t (subst (λ x. opens x ≡ true → All (λ u. has_term ts u ≡ true) (operands_of x)) same next.1 opened)
  ]

  module _ (closed : (q : Quantifier) (xs : List Variable) (t : Term) → opens (quantified q xs t) ≡ false) where
    pub listed-behind : (t : Term) → IsBehind (with_parts opens t [])
    listed-behind t = listed-extends opens closed IsBehind behind-grows t [] none-behind

    pub listed-once : (t : Term) → IsOnce (with_parts opens t [])
    listed-once t = listed-extends opens closed IsOnce once-grows t [] none-once

    pub listed-closed : (t : Term) (ts : List Term) → IsClosed ts → IsClosed (with_parts opens t ts)
    listed-closed t ts before = listed-extends opens closed IsClosed closed-grows t ts before
