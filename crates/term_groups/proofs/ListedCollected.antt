-- The wanted terms of a listing are the distinct wanted parts of the term, in the same order.
use Rattle.std.proofs.Common.{◌≡◌, inl, inr, Bool, true, false, cond, ◌&&◌, List, [], ◌∷◌, ◌++◌, All, filter, refl, ap, sym, ◌∙◌, subst}
use Rattle.std.proofs.lemmas.List.Elements.{All-head, All-tail, filter-append}
use Rattle.smt_terms.specs.Groups.{has_term, with_new, where_so}
use Rattle.smt_terms.specs.Sorts.{Variable}
use Rattle.smt_terms.specs.Term.{Quantifier, Term, apply, quantified, Terms, none, ◌⨾◌, list}
use Rattle.smt_terms.proofs.Tests.{and_true, contrary}
use Rattle.term_walk.proofs.Members.{has-filter, in_either}
use Rattle.quantifier_forms.specs.Listing.{listed_variables}
use Rattle.term_groups.specs.Parts.{collected, collected_of}
use Rattle.term_groups.proofs.ListedOrders.{IsClosed, none-closed, listed-closed}
use Rattle.term_groups.proofs.ListedTerms.{with_parts, with_parts_of, added, not-below}
use Rattle.term_groups.proofs.PartMembers.{in-where, filter-one, new-to_none, none-new, known-adds_nothing, new-is_added, with_new-grouped}

-- what is collected below an opened term
in-opened : (b : Bool) (us : List Term) (v : Term) → has_term (cond b us []) v ≡ true → (b ≡ true) × (has_term us v ≡ true)
in-opened true us v e = (refl, e)
in-opened false us v e = absurd cc

module _ (opens wanted : Term → Bool) where
  -- ---- what is wanted of the terms that stand before

  module _ (ts : List Term) (before : IsClosed opens ts) where
    there-wanted : (t v : Term) → has_term ts t ≡ true → has_term (where_so (wanted t) (t ∷ [])) v ≡ true → has_term (filter wanted ts) v ≡ true
    there-wanted t v there e =
        let one = in-where (wanted t) t v e in
        has-filter wanted ts v
        ∙ subst (λ u. (has_term ts u && wanted u) ≡ true) one.1 (and_true (has_term ts t) (wanted t) there one.0)

    mutual
      collected-there : (t : Term) → has_term ts t ≡ true → (v : Term) → has_term (collected opens wanted t) v ≡ true → has_term (filter wanted ts) v ≡ true
      collected-there (apply h us) there v e =
          elim (in_either (cond (opens (apply h us)) (collected_of opens wanted us) []) (where_so (wanted (apply h us)) (apply h us ∷ [])) v e) [
            | inl deep ↦
                let opened = in-opened (opens (apply h us)) (collected_of opens wanted us) v deep in
                each-collected us (before (apply h us) there opened.0) v opened.1
            | inr one ↦ there-wanted (apply h us) v there one
          ]
      collected-there (quantified q xs body) there v e = there-wanted (quantified q xs body) v there e

      each-collected : (us : Terms) → All (λ u. has_term ts u ≡ true) (list us) → (v : Term) → has_term (collected_of opens wanted us) v ≡ true → has_term (filter wanted ts) v ≡ true
      each-collected none each v e = absurd cc
      each-collected (u ⨾ us) each v e = elim (in_either (collected opens wanted u) (collected_of opens wanted us) v e) [
        | inl first ↦ collected-there u (All-head (λ w. has_term ts w ≡ true) u (list us) each) v first
        | inr other ↦ each-collected us (All-tail (λ w. has_term ts w ≡ true) u (list us) each) v other
      ]

  wanted-last : (us : List Term) (t : Term) → filter wanted (us ++ t ∷ []) ≡ filter wanted us ++ where_so (wanted t) (t ∷ [])
  wanted-last us t = filter-append wanted us (t ∷ []) ∙ ap (λ vs. filter wanted us ++ vs) (filter-one wanted t)

  not-wanted : (us : List Term) (t : Term) → has_term us t ≡ false → has_term (filter wanted us) t ≡ false
  not-wanted us t new = has-filter wanted us t ∙ ap (λ b. b && wanted t) new

  -- a new term behind what was listed below it
  one-collected : (ts below parts : List Term) (t : Term) → filter wanted below ≡ with_new (filter wanted ts) parts → has_term below t ≡ false
      → filter wanted (below ++ t ∷ []) ≡ with_new (filter wanted ts) (with_new parts (where_so (wanted t) (t ∷ [])))
  one-collected ts below parts t same new =
      wanted-last below t
      ∙ sym (new-is_added (filter wanted below) (wanted t) t (not-wanted below t new))
      ∙ ap (λ vs. with_new vs (where_so (wanted t) (t ∷ []))) same
      ∙ sym (with_new-grouped (filter wanted ts) parts (where_so (wanted t) (t ∷ [])))

  behind-collected : (ts below parts : List Term) (t : Term)
      → (has_term ts t ≡ true → (v : Term) → has_term (with_new (cond (opens t) parts []) (where_so (wanted t) (t ∷ []))) v ≡ true → has_term (filter wanted ts) v ≡ true)
      → (opens t ≡ true → has_term ts t ≡ false → (filter wanted below ≡ with_new (filter wanted ts) parts) × (has_term below t ≡ false))
      → filter wanted (added opens ts below t) ≡ with_new (filter wanted ts) (with_new (cond (opens t) parts []) (where_so (wanted t) (t ∷ [])))
  behind-collected ts below parts t known deep = by (has_term ts t) refl (opens t) refl
    where
      by : (b : Bool) → has_term ts t ≡ b → (c : Bool) → opens t ≡ c → filter wanted (cond b ts (cond c below ts ++ t ∷ [])) ≡ with_new (filter wanted ts) (with_new (cond (opens t) parts []) (where_so (wanted t) (t ∷ [])))
      by true there c e = sym (known-adds_nothing (filter wanted ts) (with_new (cond (opens t) parts []) (where_so (wanted t) (t ∷ []))) (known there))
      by false new true e =
          let listed_below = deep e new in
          one-collected ts below parts t listed_below.0 listed_below.1
          ∙ ap (λ c. with_new (filter wanted ts) (with_new (cond c parts []) (where_so (wanted t) (t ∷ [])))) (sym e)
      by false new false e =
          one-collected ts ts [] t (sym (none-new (filter wanted ts))) new
          ∙ ap (λ c. with_new (filter wanted ts) (with_new (cond c parts []) (where_so (wanted t) (t ∷ [])))) (sym e)

  -- ---- what is collected of a term is added to what was wanted before

  nothing-below : (b : Bool) (us : List Term) → with_new (cond b [] []) us ≡ us
  nothing-below true us = new-to_none us
  nothing-below false us = new-to_none us

  module _ (closed : (q : Quantifier) (xs : List Variable) (t : Term) → opens (quantified q xs t) ≡ false) where
    mutual
      listed-adds : (t : Term) (ts : List Term) → IsClosed opens ts → filter wanted (with_parts opens t ts) ≡ with_new (filter wanted ts) (collected opens wanted t)
      listed-adds (apply h us) ts before =
          behind-collected ts (with_parts_of opens us ts) (collected_of opens wanted us) (apply h us)
          (λ there. collected-there ts before (apply h us) there)
          (λ opened new. (each-adds us ts before, not-below opens closed h us ts new))
      listed-adds (quantified q xs body) ts before =
          behind-collected ts (with_parts opens body (listed_variables (λ _. false) opens xs ts)) [] (quantified q xs body)
          (λ there v e. collected-there ts before (quantified q xs body) there v (sym (ap (λ us. has_term us v) (nothing-below (opens (quantified q xs body)) (where_so (wanted (quantified q xs body)) (quantified q xs body ∷ [])))) ∙ e))
          (λ opened new. contrary (opens (quantified q xs body)) opened (closed q xs body))
          ∙ ap (with_new (filter wanted ts)) (nothing-below (opens (quantified q xs body)) (where_so (wanted (quantified q xs body)) (quantified q xs body ∷ [])))

      each-adds : (us : Terms) (ts : List Term) → IsClosed opens ts → filter wanted (with_parts_of opens us ts) ≡ with_new (filter wanted ts) (collected_of opens wanted us)
      each-adds none ts before = sym (none-new (filter wanted ts))
      each-adds (u ⨾ us) ts before =
          each-adds us (with_parts opens u ts) (listed-closed opens closed u ts before)
          ∙ ap (λ vs. with_new vs (collected_of opens wanted us)) (listed-adds u ts before)
          ∙ sym (with_new-grouped (filter wanted ts) (collected opens wanted u) (collected_of opens wanted us))

    pub wanted-collected : (t : Term) → filter wanted (with_parts opens t []) ≡ collected opens wanted t
    wanted-collected t = listed-adds t [] (none-closed opens) ∙ new-to_none (collected opens wanted t)
