-- Lists by their places: an element, what stands before it and what stands behind it.
use Rattle.std.proofs.Common.{◌≡◌, ◌∙◌, ap, subst, ℕ, zero, suc, ◌+◌, ◌-◌, ◌<◌, ◌≤◌, List, [], ◌∷◌, map, take, drop, length, slice_get, Some, option_map, All, arith}
use Rattle.std.proofs.Math.Seq.{drop-cons, take-nil}
use Rattle.std.proofs.lemmas.Option.{slice_get_within, get_or_from_slice_get, slice_get-map}

-- the list from an element on
pub front : {A : Type 0} (xs : List A) (i : ℕ) (x : A) → slice_get xs i ≡ Some x → drop i xs ≡ x ∷ drop (i + 1) xs
front xs i x at =
    drop-cons xs i x (slice_get_within xs i x at)
    ∙ (λ j. get_or_from_slice_get xs i x x at j ∷ drop (let e : suc i ≡ i + 1 = omega arith in e j) xs)

-- the list from the element before a place
pub drop-front : {A : Type 0} (xs : List A) (place : ℕ) (x : A) → 0 < place → place ≤ length xs → slice_get xs (place - 1) ≡ Some x → drop (place - 1) xs ≡ x ∷ drop place xs
drop-front xs place x some within at =
    drop-cons xs (place - 1) x (omega arith)
    ∙ (λ i. get_or_from_slice_get xs (place - 1) x x at i ∷ drop (let e : suc (place - 1) ≡ place = omega arith in e i) xs)

-- the first elements, where these are all
pub all_taken : {A : Type 0} (xs : List A) (i : ℕ) → length xs ≤ i → take i xs ≡ xs
all_taken [] i past = take-nil i
all_taken (x ∷ xs) zero past = absurd (omega arith)
all_taken (x ∷ xs) (suc i) past = ap (λ ys. x ∷ ys) (all_taken xs i (omega arith))

pub taken_all : {A B : Type 0} (f : A → B) (xs : List A) (i : ℕ) → length xs ≤ i → take i (map f xs) ≡ map f xs
taken_all f [] i past = take-nil i
taken_all f (x ∷ xs) zero past = absurd (omega arith)
taken_all f (x ∷ xs) (suc i) past = ap (λ ys. f x ∷ ys) (taken_all f xs i (omega arith))

-- one element
pub all_at : {A : Type 0} (P : A → Type 0) (xs : List A) (i : ℕ) (x : A) → slice_get xs i ≡ Some x → All P xs → P x
all_at P xs i x at all = subst P (get_or_from_slice_get xs i x x at) (all i x (slice_get_within xs i x at))

pub map_at : {A B : Type 0} (f : A → B) (xs : List A) (i : ℕ) (x : A) → slice_get xs i ≡ Some x → slice_get (map f xs) i ≡ Some (f x)
map_at f xs i x at = slice_get-map f xs i ∙ ap (option_map f) at
