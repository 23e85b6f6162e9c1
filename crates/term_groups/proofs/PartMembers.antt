-- Which terms are among those of a list, and lists to which those that aren't among them are added.
use Rattle.std.proofs.Common.{◌≡◌, ◌⊎◌, inl, inr, Bool, true, false, not, cond, ◌&&◌, ◌||◌, List, [], ◌∷◌, ◌++◌, append_assoc, append-nil, filter, refl, ap, sym, ◌∙◌}
use Rattle.std.proofs.lemmas.List.Elements.{filter-append, filter_agree}
use Rattle.smt_terms.specs.Equal.{term_eq}
use Rattle.smt_terms.specs.Groups.{has_term, with_new, where_so}
use Rattle.smt_terms.specs.Term.{Term}
use Rattle.smt_terms.proofs.Equal.{Decides-term_eq}
use Rattle.smt_terms.proofs.Tests.{either_true, left_true, right_true}
use Rattle.term_walk.proofs.Members.{has-append, has-with_new, has-one, is-one}

-- ---- one more term at the end

pub has-before : (ts : List Term) (t u : Term) → has_term ts u ≡ true → has_term (ts ++ t ∷ []) u ≡ true
has-before ts t u e = has-append ts (t ∷ []) u ∙ left_true (has_term ts u) (has_term (t ∷ []) u) e

pub has-last : (ts : List Term) (t : Term) → has_term (ts ++ t ∷ []) t ≡ true
has-last ts t = has-append ts (t ∷ []) t ∙ right_true (has_term ts t) (has_term (t ∷ []) t) (has-one t)

pub before-or-last : (ts : List Term) (t u : Term) → has_term (ts ++ t ∷ []) u ≡ true → (has_term ts u ≡ true) ⊎ (t ≡ u)
before-or-last ts t u e = elim (either_true (has_term ts u) (has_term (t ∷ []) u) (sym (has-append ts (t ∷ []) u) ∙ e)) [
  | inl before ↦ inl before
  | inr last ↦ inr (is-one t u last)
]

-- ---- a term that is there only where so

pub in-where : (b : Bool) (t u : Term) → has_term (where_so b (t ∷ [])) u ≡ true → (b ≡ true) × (t ≡ u)
in-where true t u h = (refl, is-one t u h)
in-where false t u h = absurd cc

-- ---- filters

pub filter-filter : (p q : Term → Bool) (ts : List Term) → filter p (filter q ts) ≡ filter (λ t. q t && p t) ts
filter-filter p q [] = refl
filter-filter p q (t ∷ ts) = head (q t) ∙ ap (λ us. cond (q t && p t) (t ∷ us) us) (filter-filter p q ts)
  where
    head : (b : Bool) → filter p (cond b (t ∷ filter q ts) (filter q ts)) ≡ cond (b && p t) (t ∷ filter p (filter q ts)) (filter p (filter q ts))
    head true = refl
    head false = refl

pub filter-one : (p : Term → Bool) (t : Term) → filter p (t ∷ []) ≡ where_so (p t) (t ∷ [])
filter-one p t = by (p t)
  where
    by : (b : Bool) → cond b (t ∷ []) [] ≡ where_so b (t ∷ [])
    by true = refl
    by false = refl

pub filter-all : (ts : List Term) → filter (λ t. true) ts ≡ ts
filter-all [] = refl
filter-all (t ∷ ts) = ap (λ us. t ∷ us) (filter-all ts)

pub filter-none : (p : Term → Bool) (ts : List Term) → ((t : Term) → has_term ts t ≡ true → p t ≡ false) → filter p ts ≡ []
filter-none p [] out = refl
filter-none p (t ∷ ts) out =
    ap (λ b. cond b (t ∷ filter p ts) (filter p ts)) (out t (left_true (term_eq t t) (has_term ts t) ((Decides-term_eq t t).1 refl)))
    ∙ filter-none p ts (λ u e. out u (right_true (term_eq t u) (has_term ts u) e))

-- ---- what is added to nothing, and what adds nothing

pub new-to_none : (ts : List Term) → with_new [] ts ≡ ts
new-to_none ts = filter-all ts

pub none-new : (ts : List Term) → with_new ts [] ≡ ts
none-new ts = append-nil ts

pub known-adds_nothing : (ts us : List Term) → ((u : Term) → has_term us u ≡ true → has_term ts u ≡ true) → with_new ts us ≡ ts
known-adds_nothing ts us known = ap (λ vs. ts ++ vs) (filter-none (λ u. not (has_term ts u)) us (λ u e. ap not (known u e))) ∙ append-nil ts

pub new-is_added : (ts : List Term) (b : Bool) (t : Term) → has_term ts t ≡ false → with_new ts (where_so b (t ∷ [])) ≡ ts ++ where_so b (t ∷ [])
new-is_added ts true t new = ap (λ c. ts ++ cond (not c) (t ∷ []) []) new
new-is_added ts false t new = refl

pub with_new-grouped : (ts us vs : List Term) → with_new ts (with_new us vs) ≡ with_new (with_new ts us) vs
with_new-grouped ts us vs =
    ap (λ ws. ts ++ ws) (filter-append (λ u. not (has_term ts u)) us (filter (λ v. not (has_term us v)) vs))
    ∙ ap (λ ws. ts ++ (filter (λ u. not (has_term ts u)) us ++ ws)) rest
    ∙ sym (append_assoc ts (filter (λ u. not (has_term ts u)) us) (filter (λ v. not (has_term (with_new ts us) v)) vs))
  where
    neither : (a b : Bool) → (not b && not a) ≡ not (a || b)
    neither true true = refl
    neither true false = refl
    neither false true = refl
    neither false false = refl

    rest : filter (λ u. not (has_term ts u)) (filter (λ v. not (has_term us v)) vs) ≡ filter (λ v. not (has_term (with_new ts us) v)) vs
    rest =
        filter-filter (λ u. not (has_term ts u)) (λ v. not (has_term us v)) vs
        ∙ filter_agree (λ v. not (has_term us v) && not (has_term ts v)) (λ v. not (has_term (with_new ts us) v)) (λ v. neither (has_term ts v) (has_term us v) ∙ ap not (sym (has-with_new ts us v))) vs
