-- The applications of a term come in an order in which each stands behind those inside its operands.
use Rattle.std.proofs.Common.{◌≡◌, Bool, true, false, not, cond, inl, inr, List, [], ◌∷◌, ◌++◌, append_assoc, append-nil, All, refl, sym, ◌∙◌, subst}
use Rattle.std.specs.Prelude.{filter}
use Rattle.std.proofs.lemmas.List.Elements.{All-nil, All-cons}
use Rattle.smt_terms.specs.Groups.{has_term, with_new, where_so}
use Rattle.smt_terms.specs.Shapes.{is_application}
use Rattle.smt_terms.specs.Term.{Term, apply, quantified, Terms, none, ◌⨾◌}
use Rattle.smt_terms.proofs.Tests.{either_true}
use Rattle.term_walk.proofs.Members.{has-append, is-one}
use Rattle.ackermann.specs.Ackermann.{applications, applications_of}
use Rattle.ackermann.specs.Removals.{inner_uses}
use Rattle.ackermann.proofs.UseLists.{HasAll, has-before, has-behind, has-through, not_false}

-- behind the terms of the first list each has those inside its operands before it
abbrev pub Ordered : List Term → List Term → Type 0
Ordered ds [] = Unit {0}
Ordered ds (t ∷ ts) = HasAll ds (inner_uses t) × Ordered (ds ++ t ∷ []) ts

pub ordered-append : (ds ts us : List Term) → Ordered ds ts → Ordered (ds ++ ts) us → Ordered ds (ts ++ us)
ordered-append ds [] us first second = subst (λ es. Ordered es us) (append-nil ds) second
ordered-append ds (t ∷ ts) us first second =
    (first.0, ordered-append (ds ++ t ∷ []) ts us first.1 (subst (λ es. Ordered es us) (sym (append_assoc ds (t ∷ []) ts)) second))

has-one_more : (ds es : List Term) (t : Term) → HasAll es ds → HasAll (es ++ t ∷ []) (ds ++ t ∷ [])
has-one_more ds es t all u among = elim (either_true (has_term ds u) (has_term (t ∷ []) u) (sym (has-append ds (t ∷ []) u) ∙ among)) [
  | inl before ↦ has-before es (t ∷ []) u (all u before)
  | inr last ↦ has-behind es (t ∷ []) u last
]

has-one_known : (ds es : List Term) (t : Term) → HasAll es ds → has_term es t ≡ true → HasAll es (ds ++ t ∷ [])
has-one_known ds es t all known u among = elim (either_true (has_term ds u) (has_term (t ∷ []) u) (sym (has-append ds (t ∷ []) u) ∙ among)) [
  | inl before ↦ all u before
  | inr last ↦ subst (λ v. has_term es v ≡ true) (is-one t u last) known
]

-- terms that are there already may be left out
pub ordered-filter : (p : Term → Bool) (ds es ts : List Term) → HasAll es ds → ((u : Term) → p u ≡ false → has_term es u ≡ true) → Ordered ds ts → Ordered es (filter p ts)
ordered-filter p ds es [] all known order = tt
ordered-filter p ds es (t ∷ ts) all known order =
    go (p t) refl
    (ordered-filter p (ds ++ t ∷ []) (es ++ t ∷ []) ts (has-one_more ds es t all) (λ u out. has-before es (t ∷ []) u (known u out)) order.1)
    (λ there. ordered-filter p (ds ++ t ∷ []) es ts (has-one_known ds es t all there) known order.1)
  where
    go : (b : Bool) → p t ≡ b → Ordered (es ++ t ∷ []) (filter p ts) → (has_term es t ≡ true → Ordered es (filter p ts)) → Ordered es (cond b (t ∷ filter p ts) (filter p ts))
    go true here kept left_out = (has-through es ds (inner_uses t) all order.0, kept)
    go false here kept left_out = left_out (known t here)

ordered-new : (ds ts us : List Term) → Ordered [] ts → HasAll ts ds → Ordered ds us → Ordered [] (with_new ts us)
ordered-new ds ts us first all second =
    ordered-append [] ts (filter (λ u. not (has_term ts u)) us) first
    (ordered-filter (λ u. not (has_term ts u)) ds ts us all (λ u e. not_false (has_term ts u) e) second)

has-none : (ts : List Term) → HasAll ts []
has-none ts t among = absurd cc

mutual
  pub applications-ordered : (t : Term) → Ordered [] (applications t)
  applications-ordered (apply h ts) = ordered-new (applications_of ts) (applications_of ts) (where_so (is_application h ts) (apply h ts ∷ [])) (operands-ordered ts) (λ u among. among) (last (is_application h ts))
    where
      last : (b : Bool) → Ordered (applications_of ts) (where_so b (apply h ts ∷ []))
      last true = (λ u among. among, tt)
      last false = tt
  applications-ordered (quantified q xs body) = tt

  pub operands-ordered : (ts : Terms) → Ordered [] (applications_of ts)
  operands-ordered none = tt
  operands-ordered (t ⨾ ts) = ordered-new [] (applications t) (applications_of ts) (applications-ordered t) (has-none (applications t)) (operands-ordered ts)

-- ---- what the order says

pub ordered-behind : (ds us : List Term) (t : Term) (vs : List Term) → Ordered ds (us ++ t ∷ vs) → HasAll (ds ++ us) (inner_uses t)
ordered-behind ds [] t vs order = subst (λ es. HasAll es (inner_uses t)) (sym (append-nil ds)) order.0
ordered-behind ds (u ∷ us) t vs order =
    subst (λ es. HasAll es (inner_uses t)) (append_assoc ds (u ∷ []) us) (ordered-behind (ds ++ u ∷ []) us t vs order.1)

pub ordered-closed : (ds ts : List Term) → Ordered ds ts → All (λ t. HasAll (ds ++ ts) (inner_uses t)) ts
ordered-closed ds [] order = All-nil (λ t. HasAll (ds ++ []) (inner_uses t))
ordered-closed ds (t ∷ ts) order =
    All-cons (λ u. HasAll (ds ++ t ∷ ts) (inner_uses u)) t ts
    (has-through (ds ++ t ∷ ts) ds (inner_uses t) (has-before ds (t ∷ ts)) order.0)
    (subst (λ es. All (λ u. HasAll es (inner_uses u)) ts) (append_assoc ds (t ∷ []) ts) (ordered-closed (ds ++ t ∷ []) ts order.1))
