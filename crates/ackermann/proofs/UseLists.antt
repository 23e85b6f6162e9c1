-- Lists of terms, and of constants with their terms: what holds of all of them, and what they have in common.
use Rattle.std.proofs.Common.{◌≡◌, Bool, true, false, not, ◌||◌, inl, inr, List, [], ◌∷◌, ◌++◌, All, Some, cond, refl, ap, sym, ◌∙◌, subst}
use Rattle.std.specs.Prelude.{is_none}
use Rattle.std.specs.List.{list_all, list_any, flat_map}
use Rattle.std.proofs.lemmas.List.Elements.{All-nil, All-cons, All-head, All-tail, All-append, All-weaker}
use Rattle.smt_terms.specs.Equal.{symbol_eq, term_eq}
use Rattle.smt_terms.specs.Free.{is_among}
use Rattle.smt_terms.specs.Groups.{Named, has_term, with_new, constant_for}
use Rattle.smt_terms.specs.Sorts.{Symbol}
use Rattle.smt_terms.specs.Term.{Term}
use Rattle.smt_terms.proofs.Equal.{Decides-term_eq, Decides-symbol_eq}
use Rattle.smt_terms.proofs.Tests.{both_true, and_true, either_true, left_true, right_true}
use Rattle.term_groups.specs.Grouping.{terms_of}
use Rattle.term_walk.proofs.Members.{has-append, has-with_new}

-- ---- what holds of all elements

module _ {X : Type 0} (P : X → Type 0) where
  pub All-first : (xs ys : List X) → All P (xs ++ ys) → All P xs
  All-first [] ys all = All-nil P
  All-first (x ∷ xs) ys all = All-cons P x xs (All-head P x (xs ++ ys) all) (All-first xs ys (All-tail P x (xs ++ ys) all))

  pub All-second : (xs ys : List X) → All P (xs ++ ys) → All P ys
  All-second [] ys all = all
  All-second (x ∷ xs) ys all = All-second xs ys (All-tail P x (xs ++ ys) all)

  pub All-flat_map : {Y : Type 0} (f : Y → List X) (ys : List Y) → All (λ y. All P (f y)) ys → All P (flat_map f ys)
  All-flat_map f [] all = All-nil P
  All-flat_map f (y ∷ ys) all =
      All-append P (f y) (flat_map f ys) (All-head (λ z. All P (f z)) y ys all) (All-flat_map f ys (All-tail (λ z. All P (f z)) y ys all))

  pub All-from_flat_map : {Y : Type 0} (f : Y → List X) (ys : List Y) → All P (flat_map f ys) → All (λ y. All P (f y)) ys
  All-from_flat_map f [] all = All-nil (λ z. All P (f z))
  All-from_flat_map f (y ∷ ys) all =
      All-cons (λ z. All P (f z)) y ys (All-first (f y) (flat_map f ys) all) (All-from_flat_map f ys (All-second (f y) (flat_map f ys) all))

module _ {X : Type 0} (p : X → Bool) where
  pub All-passes : (xs : List X) → All (λ x. p x ≡ true) xs → list_all p xs ≡ true
  All-passes [] all = refl
  All-passes (x ∷ xs) all = and_true (p x) (list_all p xs) (All-head (λ y. p y ≡ true) x xs all) (All-passes xs (All-tail (λ y. p y ≡ true) x xs all))

  pub passes-All : (xs : List X) → list_all p xs ≡ true → All (λ x. p x ≡ true) xs
  passes-All [] holds = All-nil (λ x. p x ≡ true)
  passes-All (x ∷ xs) holds =
      let parts = both_true (p x) (list_all p xs) holds in
      All-cons (λ y. p y ≡ true) x xs parts.0 (passes-All xs parts.1)

-- ---- what holds of an element

pub has-All : (P : Term → Type 0) (ts : List Term) (t : Term) → All P ts → has_term ts t ≡ true → P t
has-All P [] t all among = absurd cc
has-All P (u ∷ ts) t all among = elim (either_true (term_eq u t) (has_term ts t) among) [
  | inl same ↦ subst P ((Decides-term_eq u t).0 same) (All-head P u ts all)
  | inr there ↦ has-All P ts t (All-tail P u ts all) there
]

pub All-has : (ts : List Term) → All (λ t. has_term ts t ≡ true) ts
All-has [] = All-nil (λ t. has_term [] t ≡ true)
All-has (u ∷ ts) =
    All-cons (λ t. has_term (u ∷ ts) t ≡ true) u ts (left_true (term_eq u u) (has_term ts u) ((Decides-term_eq u u).1 refl))
    (All-weaker (λ t. has_term ts t ≡ true) (λ t. has_term (u ∷ ts) t ≡ true) (λ t there. right_true (term_eq u t) (has_term ts t) there) ts (All-has ts))

pub has-any : (p : Term → Bool) (ts : List Term) (t : Term) → has_term ts t ≡ true → p t ≡ true → list_any p ts ≡ true
has-any p [] t among holds = absurd cc
has-any p (u ∷ ts) t among holds = elim (either_true (term_eq u t) (has_term ts t) among) [
  | inl same ↦ left_true (p u) (list_any p ts) (ap p ((Decides-term_eq u t).0 same) ∙ holds)
  | inr there ↦ right_true (p u) (list_any p ts) (has-any p ts t there holds)
]

pub among-passes : (p : Symbol → Bool) (fs : List Symbol) (f : Symbol) → list_all p fs ≡ true → is_among fs f ≡ true → p f ≡ true
among-passes p [] f all among = absurd cc
among-passes p (g ∷ fs) f all among =
    let parts = both_true (p g) (list_all p fs) all in
    elim (either_true (symbol_eq g f) (is_among fs f) among) [
      | inl same ↦ ap p (sym ((Decides-symbol_eq g f).0 same)) ∙ parts.0
      | inr there ↦ among-passes p fs f parts.1 there
    ]

-- ---- lists of terms that have all of another list

abbrev pub HasAll : List Term → List Term → Type 0
HasAll ts us = (t : Term) → has_term us t ≡ true → has_term ts t ≡ true

pub has-first : (ts us : List Term) → HasAll (with_new ts us) ts
has-first ts us t among = has-with_new ts us t ∙ left_true (has_term ts t) (has_term us t) among

pub has-second : (ts us : List Term) → HasAll (with_new ts us) us
has-second ts us t among = has-with_new ts us t ∙ right_true (has_term ts t) (has_term us t) among

pub has-before : (ts us : List Term) → HasAll (ts ++ us) ts
has-before ts us t among = has-append ts us t ∙ left_true (has_term ts t) (has_term us t) among

pub has-behind : (ts us : List Term) → HasAll (ts ++ us) us
has-behind ts us t among = has-append ts us t ∙ right_true (has_term ts t) (has_term us t) among

pub has-through : (ts us vs : List Term) → HasAll ts us → HasAll us vs → HasAll ts vs
has-through ts us vs first second t among = first t (second t among)

-- ---- constants with their terms

pub terms-append : (ns ms : Named) → terms_of (ns ++ ms) ≡ terms_of ns ++ terms_of ms
terms-append [] ms = refl
terms-append (n ∷ ns) ms = ap (λ ts. n.1 ∷ ts) (terms-append ns ms)

-- what holds of all constants and their terms
pub found-holds : (P : Symbol × Term → Type 0) (ns : Named) (t : Term) (f : Symbol) → All P ns → constant_for ns t ≡ Some f → P (f, t)
found-holds P [] t f all found = absurd cc
found-holds P (n ∷ ns) t f all found = go (term_eq n.1 t) refl found (found-holds P ns t f (All-tail P n ns all))
  where
    go : (b : Bool) → term_eq n.1 t ≡ b → cond b (Some n.0) (constant_for ns t) ≡ Some f → (constant_for ns t ≡ Some f → P (f, t)) → P (f, t)
    go true same here behind =
        let symbols : n.0 ≡ f = cc in
        let terms : n.1 ≡ t = (Decides-term_eq n.1 t).0 same in
        subst P (λ i. (symbols i, terms i)) (All-head P n ns all)
    go false other here behind = behind here

-- a term has a constant where it is one of the terms
pub none-for : (ns : Named) (t : Term) → is_none (constant_for ns t) ≡ not (has_term (terms_of ns) t)
none-for [] t = refl
none-for (n ∷ ns) t = go (term_eq n.1 t) (none-for ns t)
  where
    go : (b : Bool) → is_none (constant_for ns t) ≡ not (has_term (terms_of ns) t) → is_none (cond b (Some n.0) (constant_for ns t)) ≡ not (b || has_term (terms_of ns) t)
    go true behind = refl
    go false behind = behind

-- ---- tests

pub not_false : (b : Bool) → not b ≡ false → b ≡ true
not_false true e = refl
not_false false e = absurd cc
