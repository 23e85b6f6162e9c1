-- Which terms are among those of a list, and what all elements of lists have.
use Rattle.std.proofs.Common.{◌≡◌, Bool, true, false, not, cond, ◌&&◌, ◌||◌, List, [], ◌∷◌, ◌++◌, map, All, refl, ap, ◌∙◌}
use Rattle.std.specs.Prelude.{filter, flat_map}
use Rattle.std.specs.List.{list_all}
use Rattle.std.proofs.lemmas.List.Elements.{All-nil, All-cons, All-head, All-tail, All-append, All-filter}
use Rattle.smt_terms.specs.Term.{Term}
use Rattle.smt_terms.specs.Equal.{term_eq}
use Rattle.smt_terms.specs.Groups.{has_term, with_new}
use Rattle.smt_terms.proofs.Equal.{Decides-term_eq}
use Rattle.smt_terms.proofs.Tests.{and_true}

-- ---- terms among others

pub term_itself : (t : Term) → term_eq t t ≡ true
term_itself t = (Decides-term_eq t t).1 refl

has_term-append : (ts us : List Term) (x : Term) → has_term (ts ++ us) x ≡ (has_term ts x || has_term us x)
has_term-append [] us x = refl
has_term-append (t ∷ ts) us x = ap (λ b. term_eq t x || b) (has_term-append ts us x) ∙ or_grouped (term_eq t x) (has_term ts x) (has_term us x)
  where
    or_grouped : (a b c : Bool) → (a || (b || c)) ≡ ((a || b) || c)
    or_grouped true b c = refl
    or_grouped false b c = refl

-- one more term, if a test lets it through
has_term-kept : (b : Bool) (t : Term) (ts : List Term) (x : Term) → has_term (cond b (t ∷ ts) ts) x ≡ ((b && term_eq t x) || has_term ts x)
has_term-kept true t ts x = refl
has_term-kept false t ts x = refl

let_through : (same earlier p q : Bool) → (same ≡ true → q ≡ p) → ((q && same) || (earlier && p)) ≡ ((same || earlier) && p)
let_through true true true q h = let e : q ≡ true = h refl in cc
let_through true true false q h = let e : q ≡ false = h refl in cc
let_through true false true q h = let e : q ≡ true = h refl in cc
let_through true false false q h = let e : q ≡ false = h refl in cc
let_through false earlier p true h = refl
let_through false earlier p false h = refl

has_term-filter : (p : Term → Bool) (ts : List Term) (x : Term) → has_term (filter p ts) x ≡ (has_term ts x && p x)
has_term-filter p [] x = refl
has_term-filter p (t ∷ ts) x =
    has_term-kept (p t) t (filter p ts) x
    ∙ ap (λ b. (p t && term_eq t x) || b) (has_term-filter p ts x)
    ∙ let_through (term_eq t x) (has_term ts x) (p x) (p t) (λ e. ap p ((Decides-term_eq t x).0 e))

pub has_term-with_new : (ts us : List Term) (x : Term) → has_term (with_new ts us) x ≡ (has_term ts x || has_term us x)
has_term-with_new ts us x =
    has_term-append ts (filter (λ u. not (has_term ts u)) us) x
    ∙ ap (λ b. has_term ts x || b) (has_term-filter (λ u. not (has_term ts u)) us x)
    ∙ twice (has_term ts x) (has_term us x)
  where
    twice : (a b : Bool) → (a || (b && not a)) ≡ (a || b)
    twice true b = refl
    twice false true = refl
    twice false false = refl

-- ---- what all elements have

pub all-with_new : (P : Term → Type 0) (ts us : List Term) → All P ts → All P us → All P (with_new ts us)
all-with_new P ts us a b = All-append P ts (filter (λ u. not (has_term ts u)) us) a (All-filter (λ u. not (has_term ts u)) P us b)

pub all-from-map : {X Y : Type 0} (P : Y → Type 0) (f : X → Y) (xs : List X) → All P (map f xs) → All (λ x. P (f x)) xs
all-from-map P f [] a = All-nil (λ x. P (f x))
all-from-map P f (x ∷ xs) a =
    All-cons (λ z. P (f z)) x xs (All-head P (f x) (map f xs) a) (all-from-map P f xs (All-tail P (f x) (map f xs) a))

pub all-flat_map : {X Y : Type 0} (P : Y → Type 0) (f : X → List Y) (xs : List X) → All (λ x. All P (f x)) xs → All P (flat_map f xs)
all-flat_map P f [] a = All-nil P
all-flat_map P f (x ∷ xs) a =
    All-append P (f x) (flat_map f xs) (All-head (λ z. All P (f z)) x xs a) (all-flat_map P f xs (All-tail (λ z. All P (f z)) x xs a))

-- a test of all elements
pub all-passed : {X : Type 0} (test : X → Bool) (xs : List X) → All (λ x. test x ≡ true) xs → list_all test xs ≡ true
all-passed test [] a = refl
all-passed test (x ∷ xs) a =
    and_true (test x) (list_all test xs) (All-head (λ z. test z ≡ true) x xs a) (all-passed test xs (All-tail (λ z. test z ≡ true) x xs a))
