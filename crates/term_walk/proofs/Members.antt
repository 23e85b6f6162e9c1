-- Which terms are among those of a list.
use Rattle.std.proofs.Common.{◌≡◌, ℕ, zero, suc, ◌<◌, ◌⊎◌, inl, inr, Bool, true, false, not, cond, ◌&&◌, ◌||◌, List, [], ◌∷◌, ◌++◌, length, get_or, filter, refl, ap, sym, ◌∙◌, arith}
use Rattle.smt_terms.specs.Equal.{term_eq}
use Rattle.smt_terms.specs.Groups.{has_term, with_new}
use Rattle.smt_terms.specs.Term.{Term}
use Rattle.smt_terms.proofs.Equal.{Decides-term_eq}
use Rattle.smt_terms.proofs.Tests.{either_true, left_true, right_true}

pub has-append : (ts us : List Term) (t : Term) → has_term (ts ++ us) t ≡ (has_term ts t || has_term us t)
has-append [] us t = refl
has-append (v ∷ ts) us t = ap (λ b. term_eq v t || b) (has-append ts us t) ∙ or_grouped (term_eq v t) (has_term ts t) (has_term us t)
  where
    or_grouped : (a b c : Bool) → (a || (b || c)) ≡ ((a || b) || c)
    or_grouped true b c = refl
    or_grouped false b c = refl

-- a list that lets through what passes a test
pub has-filter : (p : Term → Bool) (ts : List Term) (t : Term) → has_term (filter p ts) t ≡ (has_term ts t && p t)
has-filter p [] t = refl
has-filter p (v ∷ ts) t = head (p v) refl ∙ ap (λ b. (p v && term_eq v t) || b) (has-filter p ts t) ∙ let_through (term_eq v t) (has_term ts t) (p t) (p v) (λ e. ap p ((Decides-term_eq v t).0 e))
  where
    head : (b : Bool) → p v ≡ b → has_term (cond b (v ∷ filter p ts) (filter p ts)) t ≡ ((b && term_eq v t) || has_term (filter p ts) t)
    head true e = refl
    head false e = refl

    let_through : (same earlier p q : Bool) → (same ≡ true → q ≡ p) → ((q && same) || (earlier && p)) ≡ ((same || earlier) && p)
    let_through true true true q h = let e : q ≡ true = h refl in cc
    let_through true true false q h = let e : q ≡ false = h refl in cc
    let_through true false true q h = let e : q ≡ true = h refl in cc
    let_through true false false q h = let e : q ≡ false = h refl in cc
    let_through false earlier p true h = refl
    let_through false earlier p false h = refl

pub has-with_new : (ts us : List Term) (t : Term) → has_term (with_new ts us) t ≡ (has_term ts t || has_term us t)
has-with_new ts us t =
    has-append ts (filter (λ u. not (has_term ts u)) us) t
    ∙ ap (λ b. has_term ts t || b) (has-filter (λ u. not (has_term ts u)) us t)
    ∙ twice (has_term ts t) (has_term us t)
  where
    twice : (a b : Bool) → (a || (b && not a)) ≡ (a || b)
    twice true b = refl
    twice false true = refl
    twice false false = refl

pub in_first : (ts us : List Term) (t : Term) → has_term ts t ≡ true → has_term (with_new ts us) t ≡ true
in_first ts us t h = has-with_new ts us t ∙ left_true (has_term ts t) (has_term us t) h

pub in_second : (ts us : List Term) (t : Term) → has_term us t ≡ true → has_term (with_new ts us) t ≡ true
in_second ts us t h = has-with_new ts us t ∙ right_true (has_term ts t) (has_term us t) h

pub in_either : (ts us : List Term) (t : Term) → has_term (with_new ts us) t ≡ true → (has_term ts t ≡ true) ⊎ (has_term us t ≡ true)
in_either ts us t h = either_true (has_term ts t) (has_term us t) (sym (has-with_new ts us t) ∙ h)

pub has-one : (t : Term) → has_term (t ∷ []) t ≡ true
has-one t = left_true (term_eq t t) false ((Decides-term_eq t t).1 refl)

pub is-one : (t u : Term) → has_term (t ∷ []) u ≡ true → t ≡ u
is-one t u h = elim (either_true (term_eq t u) false h) [ inl e ↦ (Decides-term_eq t u).0 e | inr e ↦ absurd cc ]

-- each element is one of the list
pub has-at : (ts : List Term) (i : ℕ) (d : Term) → i < length ts → has_term ts (get_or ts i d) ≡ true
has-at [] i d lt = absurd (omega arith)
has-at (t ∷ ts) zero d lt = left_true (term_eq t t) (has_term ts t) ((Decides-term_eq t t).1 refl)
has-at (t ∷ ts) (suc i) d lt = right_true (term_eq t (get_or ts i d)) (has_term ts (get_or ts i d)) (has-at ts i d (omega arith))

-- and what is one of the list is an element
pub place-of : (ts : List Term) (t d : Term) → has_term ts t ≡ true → (i : ℕ) × (i < length ts) × (get_or ts i d ≡ t)
place-of [] t d h = absurd cc
place-of (u ∷ ts) t d h = elim (either_true (term_eq u t) (has_term ts t) h) [
  | inl e ↦ (zero, omega arith, (Decides-term_eq u t).0 e)
  | inr e ↦ let r = place-of ts t d e in (suc r.0, omega arith, r.2)
]
