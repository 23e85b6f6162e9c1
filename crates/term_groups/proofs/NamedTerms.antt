-- Lists of terms, and of constants with their terms: what holds of all of them, and that no term stands twice.
use Rattle.std.proofs.Common.{◌≡◌, Bool, true, false, not, cond, ◌&&◌, List, [], ◌∷◌, ◌++◌, filter, get_or, All, Some, refl, ap, sym, ◌∙◌}
use Rattle.std.proofs.lemmas.List.Elements.{All-nil, All-cons, All-head, All-tail, All-append, All-weaker, All-filter}
use Rattle.smt_terms.specs.Equal.{symbol_eq, term_eq}
use Rattle.smt_terms.specs.Free.{is_among}
use Rattle.smt_terms.specs.Groups.{Named, has_term, with_new, constant_for, where_so}
use Rattle.smt_terms.specs.Sorts.{Symbol}
use Rattle.smt_terms.specs.Term.{Term}
use Rattle.smt_terms.proofs.Equal.{Decides-term_eq, symbol_itself}
use Rattle.smt_terms.proofs.Tests.{both_true, both_false, or_false, left_true, right_true, contrary}
use Rattle.term_walk.proofs.Members.{has-append, has-filter, has-at}
use Rattle.term_groups.specs.Grouping.{symbols_of, terms_of}
use Rattle.term_groups.specs.Replacing.{AreApart}

-- ---- what holds of all terms

pub All-with_new : (P : Term → Type 0) (ts us : List Term) → All P ts → All P us → All P (with_new ts us)
All-with_new P ts us first second =
    All-append P ts (filter (λ u. not (has_term ts u)) us) first (All-filter (λ u. not (has_term ts u)) P us second)

pub All-where_so : (P : Term → Type 0) (b : Bool) (t : Term) → (b ≡ true → P t) → All P (where_so b (t ∷ []))
All-where_so P true t holds = All-cons P t [] (holds refl) (All-nil P)
All-where_so P false t holds = All-nil P

-- ---- constants with their terms

-- what holds of the terms of a list
pub All-of_terms : (P : Term → Type 0) (ns : Named) → All P (terms_of ns) → All (λ n. P n.1) ns
All-of_terms P [] all = All-nil (λ n. P n.1)
All-of_terms P (n ∷ ns) all = All-cons (λ m. P m.1) n ns (All-head P n.1 (terms_of ns) all) (All-of_terms P ns (All-tail P n.1 (terms_of ns) all))

-- each constant is among the constants
pub All-among : (ns : Named) → All (λ n. is_among (symbols_of ns) n.0 ≡ true) ns
All-among [] = All-nil (λ n. is_among [] n.0 ≡ true)
All-among (n ∷ ns) =
    All-cons (λ m. is_among (symbols_of (n ∷ ns)) m.0 ≡ true) n ns
    (left_true (symbol_eq n.0 n.0) (is_among (symbols_of ns) n.0) (symbol_itself n.0))
    (All-weaker (λ m. is_among (symbols_of ns) m.0 ≡ true) (λ m. is_among (symbols_of (n ∷ ns)) m.0 ≡ true)
    (λ m among. right_true (symbol_eq n.0 m.0) (is_among (symbols_of ns) m.0) among) ns (All-among ns))

-- ---- terms that are apart

apart-append : (ts us : List Term) → AreApart ts → AreApart us → ((u : Term) → has_term us u ≡ true → has_term ts u ≡ false) → AreApart (ts ++ us)
apart-append [] us first second other = second
apart-append (t ∷ ts) us first second other = (
  has-append ts us t ∙ or_false (has_term ts t) (has_term us t) first.0 (none_there (has_term us t) refl),
  apart-append ts us first.1 second (λ u e. (both_false (term_eq t u) (has_term ts u) (other u e)).1),
)
  where
    none_there : (b : Bool) → has_term us t ≡ b → b ≡ false
    none_there false e = refl
    none_there true e = contrary (term_eq t t) ((Decides-term_eq t t).1 refl) (both_false (term_eq t t) (has_term ts t) (other t e)).0

pub apart-filter : (p : Term → Bool) (ts : List Term) → AreApart ts → AreApart (filter p ts)
apart-filter p [] apart = tt
apart-filter p (t ∷ ts) apart = by (p t) (apart-filter p ts apart.1)
  where
    by : (b : Bool) → AreApart (filter p ts) → AreApart (cond b (t ∷ filter p ts) (filter p ts))
    by true rest = (has-filter p ts t ∙ ap (λ b. b && p t) apart.0, rest)
    by false rest = rest

pub apart-new : (ts us : List Term) → AreApart ts → AreApart us → AreApart (with_new ts us)
apart-new ts us first second =
    apart-append ts (filter (λ u. not (has_term ts u)) us) first (apart-filter (λ u. not (has_term ts u)) us second)
    (λ u e. not_there (has_term ts u) (both_true (has_term us u) (not (has_term ts u)) (sym (has-filter (λ v. not (has_term ts v)) us u) ∙ e)).1)
  where
    not_there : (b : Bool) → not b ≡ true → b ≡ false
    not_there false e = refl
    not_there true e = absurd cc

pub apart-where : (b : Bool) (t : Term) → AreApart (where_so b (t ∷ []))
apart-where true t = (refl, tt)
apart-where false t = tt

-- where terms are apart, each constant is that of its term
pub own-constants : (ns : Named) → AreApart (terms_of ns) → All (λ n. constant_for ns n.1 ≡ Some n.0) ns
own-constants [] apart = All-nil (λ n. constant_for [] n.1 ≡ Some n.0)
own-constants (n ∷ ns) apart =
    All-cons (λ o. constant_for (n ∷ ns) o.1 ≡ Some o.0) n ns
    (ap (λ b. cond b (Some n.0) (constant_for ns n.1)) ((Decides-term_eq n.1 n.1).1 refl))
    (λ k d lt. behind (get_or ns k d) (there k d lt) (own-constants ns apart.1 k d lt))
  where
    there : All (λ o. has_term (terms_of ns) o.1 ≡ true) ns
    there = All-of_terms (λ u. has_term (terms_of ns) u ≡ true) ns (λ k d lt. has-at (terms_of ns) k d lt)

    behind : (o : Symbol × Term) → has_term (terms_of ns) o.1 ≡ true → constant_for ns o.1 ≡ Some o.0 → constant_for (n ∷ ns) o.1 ≡ Some o.0
    behind o among e = by (term_eq n.1 o.1) refl
      where
        by : (b : Bool) → term_eq n.1 o.1 ≡ b → cond b (Some n.0) (constant_for ns o.1) ≡ Some o.0
        by true same = contrary (has_term (terms_of ns) o.1) among (ap (has_term (terms_of ns)) (sym ((Decides-term_eq n.1 o.1).0 same)) ∙ apart.0)
        by false other = e
