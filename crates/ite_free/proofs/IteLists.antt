-- Lists of terms: what holds of all of them.
use Rattle.std.proofs.Common.{◌≡◌, Bool, true, List, [], ◌∷◌, All, refl}
use Rattle.std.specs.List.{list_all, flat_map}
use Rattle.std.proofs.lemmas.List.Elements.{All-nil, All-cons, All-head, All-tail, All-append}
use Rattle.smt_terms.specs.Term.{Term}
use Rattle.smt_terms.proofs.Tests.{and_true}

pub All-two : (P : Term → Type 0) (t u : Term) → P t → P u → All P (t ∷ u ∷ [])
All-two P t u first second = All-cons P t (u ∷ []) first (All-cons P u [] second (All-nil P))

pub All-flat_map : {X : Type 0} (P : Term → Type 0) (f : X → List Term) (xs : List X) → All (λ x. All P (f x)) xs → All P (flat_map f xs)
All-flat_map P f [] all = All-nil P
All-flat_map P f (x ∷ xs) all =
    All-append P (f x) (flat_map f xs) (All-head (λ y. All P (f y)) x xs all) (All-flat_map P f xs (All-tail (λ y. All P (f y)) x xs all))

pub All-passes : (p : Term → Bool) (ts : List Term) → All (λ t. p t ≡ true) ts → list_all p ts ≡ true
All-passes p [] all = refl
All-passes p (t ∷ ts) all = and_true (p t) (list_all p ts) (All-head (λ u. p u ≡ true) t ts all) (All-passes p ts (All-tail (λ u. p u ≡ true) t ts all))
