-- Lists whose elements are taken one after the other.
use Rattle.std.proofs.Common.{◌≡◌, ◌∙◌, sym, ap, refl, subst, ℕ, zero, suc, ◌+◌, ◌<◌, ◌≤◌, List, [], ◌∷◌, ◌++◌, map, take, set, slice_get, Some, All, append_assoc, arith}
use Rattle.std.proofs.lemmas.List.{map_more, take_more}
use Rattle.std.proofs.lemmas.List.Elements.{All-get_or}
use Rattle.std.proofs.lemmas.Option.{slice_get_within, get_or_from_slice_get}

-- one element more of a list
pub taken_more : {A : Type 0} (xs : List A) (i : ℕ) (x : A) → slice_get xs i ≡ Some x → take (i + 1) xs ≡ take i xs ++ x ∷ []
taken_more xs i x e = take_more xs i x (slice_get_within xs i x e) ∙ ap (λ y. take i xs ++ y ∷ []) (get_or_from_slice_get xs i x x e)

-- the image of one element more, behind others
pub image_more : {A B : Type 0} (f : A → B) (cs : List B) (xs : List A) (i : ℕ) (x : A) → slice_get xs i ≡ Some x
    → (cs ++ map f (take i xs)) ++ f x ∷ [] ≡ cs ++ map f (take (i + 1) xs)
image_more f cs xs i x e =
    append_assoc cs (map f (take i xs)) (f x ∷ [])
    ∙ ap (λ y. cs ++ (map f (take i xs) ++ f y ∷ [])) (sym (get_or_from_slice_get xs i x x e))
    ∙ ap (λ ds. cs ++ ds) (sym (map_more f xs i x (slice_get_within xs i x e)))

-- what holds of each element holds of the one at a place
pub holds_there : {A : Type 0} (P : A → Type 0) (xs : List A) (i : ℕ) (x : A) → slice_get xs i ≡ Some x → All P xs → P x
holds_there P xs i x e all = subst P (get_or_from_slice_get xs i x x e) (All-get_or P xs i x (slice_get_within xs i x e) all)

-- ---- lists that are the same from a place on

abbrev pub SameFrom : {A : Type 0} → ℕ → List A → List A → Type 0
SameFrom i xs ys = (k : ℕ) → i ≤ k → slice_get xs k ≡ slice_get ys k

pub found_alike : {A : Type 0} (xs ys : List A) (i : ℕ) (x : A) → SameFrom i xs ys → slice_get xs i ≡ Some x → slice_get ys i ≡ Some x
found_alike xs ys i x same e = sym (same i (omega arith)) ∙ e

-- another element changes no later place
later_place : {A : Type 0} (xs : List A) (i k : ℕ) (y : A) → i < k → slice_get (set xs i y) k ≡ slice_get xs k
later_place [] zero k y below = refl
later_place [] (suc i) k y below = refl
later_place (x ∷ xs) zero zero y below = absurd (omega arith)
later_place (x ∷ xs) zero (suc k) y below = refl
later_place (x ∷ xs) (suc i) zero y below = absurd (omega arith)
later_place (x ∷ xs) (suc i) (suc k) y below = later_place xs i k y (omega arith)

pub same_behind : {A : Type 0} (xs ys : List A) (i : ℕ) (y : A) → SameFrom i xs ys → SameFrom (i + 1) (set xs i y) ys
same_behind xs ys i y same k from = later_place xs i k y (omega (arith, from)) ∙ same k (omega (arith, from))
