-- A text cut at its first byte of a kind.
use Rattle.std.proofs.Common.{◌≡◌, ◌∙◌, ap, refl, ℕ, zero, suc, ◌<◌, Bool, true, false, cond, ◌==◌, List, [], ◌∷◌, length, get_or, take, drop, arith}
use Rattle.std.specs.List.{slice_split, onto_first}

abbrev pub split_at : ℕ → List ℕ → List (List ℕ)
split_at b bs = slice_split (λ c. c == b) bs

-- it stands at place k, and not before
pub split_found : (b : ℕ) (bs : List ℕ) (k : ℕ) → k < length bs → ((j : ℕ) → j < k → (get_or bs j 0 == b) ≡ false) → (get_or bs k 0 == b) ≡ true → split_at b bs ≡ take k bs ∷ split_at b (drop (suc k) bs)
split_found b [] k within none here = absurd (omega arith)
split_found b (c ∷ bs) zero within none here = ap (λ t. cond t ([] ∷ split_at b bs) (onto_first c (split_at b bs))) here
split_found b (c ∷ bs) (suc k) within none here =
    ap (λ t. cond t ([] ∷ split_at b bs) (onto_first c (split_at b bs))) (none 0 (omega arith))
    ∙ ap (onto_first c) (split_found b bs k (omega arith) (λ j below. none (suc j) (omega arith)) here)

-- it stands nowhere
pub split_none : (b : ℕ) (bs : List ℕ) → ((j : ℕ) → j < length bs → (get_or bs j 0 == b) ≡ false) → split_at b bs ≡ bs ∷ []
split_none b [] none = refl
split_none b (c ∷ bs) none =
    ap (λ t. cond t ([] ∷ split_at b bs) (onto_first c (split_at b bs))) (none 0 (omega arith))
    ∙ ap (onto_first c) (split_none b bs (λ j below. none (suc j) (omega arith)))

pub false_from : (t : Bool) → (t ≡ true → ⊥) → t ≡ false
false_from true h = absurd (h refl)
false_from false h = refl
