-- Levels that were opened at once, as they are kept together, and what is left where the latest of them end.
use Rattle.std.proofs.Common.{◌≡◌, ℕ, zero, suc, ◌+◌, ◌-◌, ◌<◌, List, [], ◌∷◌, ◌++◌, length, replicate, take, set, slice_get, Some, refl, ap, sym, ◌∙◌, subst, arith, append_assoc}
use Rattle.std.specs.List.{flat_map}
use Rattle.std.proofs.lemmas.List.{reverse-append, length-take, length-append}
use Rattle.std.proofs.lemmas.List.Elements.{All-push}
use Rattle.script_terms.specs.Laid.{starts_of, AreOpen}
use Rattle.script_terms.specs.declared.levels.Run.{Run}

pub starts-last : (rs : List Run) (r : Run) → starts_of (rs ++ r ∷ []) ≡ replicate r.levels r.below ++ starts_of rs
starts-last rs r = ap (λ ps. flat_map (λ (p : Run). replicate p.levels p.below) ps) (reverse-append rs (r ∷ []))

pub replicated : {A : Type 0} (n : ℕ) (a : A) → length (replicate n a) ≡ n
replicated zero a = refl
replicated (suc n) a = let l = replicated n a in omega (arith, l)

pub more-levels : (n b : ℕ) (ms : List ℕ) → length (replicate n b ++ ms) ≡ n + length ms
more-levels n b ms = let l = length-append (replicate n b) ms in let k = replicated n b in omega (arith, l, k)

in_parts : {A : Type 0} (n k : ℕ) (a : A) → replicate (n + k) a ≡ replicate n a ++ replicate k a
in_parts zero k a = ap (λ m. replicate m a) (let e : 0 + k ≡ k = omega arith in e)
in_parts (suc n) k a = ap (λ m. replicate m a) (let e : suc n + k ≡ suc (n + k) = omega arith in e) ∙ ap (λ xs. a ∷ xs) (in_parts n k a)

pub some-runs : (rs : List Run) → 0 < length (starts_of rs) → 0 < length rs
some-runs [] some = absurd (omega (arith, some))
some-runs (r ∷ rs) some = omega arith

-- ---- the latest run

split-at : (rs : List Run) (i : ℕ) (r : Run) → length rs ≡ suc i → slice_get rs i ≡ Some r → rs ≡ take i rs ++ r ∷ []
split-at [] i r long at = absurd (omega (arith, long))
split-at (p ∷ []) zero r long at = let same : p ≡ r = cc in ap (λ (q : Run). q ∷ []) same
split-at (p ∷ q ∷ rs) zero r long at = absurd (omega (arith, long))
split-at (p ∷ rs) (suc i) r long at = ap (λ (ps : List Run). p ∷ ps) (split-at rs i r (omega (arith, long)) at)

split-last : (rs : List Run) (r : Run) → slice_get rs (length rs - 1) ≡ Some r → rs ≡ take (length rs - 1) rs ++ r ∷ []
split-last [] r at = absurd cc
split-last (p ∷ rs) r at = split-at (p ∷ rs) (length (p ∷ rs) - 1) r (omega arith) at

set-last : (rs : List Run) (r p : Run) → set (rs ++ r ∷ []) (length rs) p ≡ rs ++ p ∷ []
set-last [] r p = refl
set-last (q ∷ rs) r p = ap (λ (ps : List Run). q ∷ ps) (set-last rs r p)

before-last : (rs : List Run) (r : Run) → AreOpen (rs ++ r ∷ []) → AreOpen rs
before-last [] r there i d lt = absurd (omega arith)
before-last (p ∷ rs) r there zero d lt = there 0 d (omega arith)
before-last (p ∷ rs) r there (suc i) d lt = before-last rs r (λ j e l. there (suc j) e (omega arith)) i d (omega arith)

last-some : (rs : List Run) (r : Run) → AreOpen (rs ++ r ∷ []) → 0 < r.levels
last-some [] r there = there 0 r (omega arith)
last-some (p ∷ rs) r there = last-some rs r (λ i d lt. there (suc i) d (omega arith))

module _ (rs : List Run) (r : Run) (at : slice_get rs (length rs - 1) ≡ Some r) where
  abbrev before : List Run
  before = take (length rs - 1) rs

  split : rs ≡ before ++ r ∷ []
  split = split-last rs r at

  -- all of its levels end
  pub all-starts : starts_of rs ≡ replicate r.levels r.below ++ starts_of before
  all-starts = ap starts_of split ∙ starts-last before r

  pub all-some : AreOpen rs → 0 < r.levels
  all-some there = last-some before r (subst AreOpen split there)

  pub all-open : AreOpen rs → AreOpen before
  all-open there = before-last before r (subst AreOpen split there)

  -- n of its levels end
  module _ (n : ℕ) (less : n < r.levels) where
    abbrev left : Run
    left = record { levels = r.levels - n; below = r.below }

    put : set rs (length rs - 1) left ≡ before ++ left ∷ []
    put =
        let k = length-take (length rs - 1) rs in
        let e : length rs - 1 ≡ length before = omega (arith, k) in
        ap (λ m. set rs m left) e ∙ ap (λ (ps : List Run). set ps (length before) left) split ∙ set-last before r left

    pub some-starts : starts_of rs ≡ replicate n r.below ++ starts_of (set rs (length rs - 1) left)
    some-starts =
        all-starts
        ∙ ap (λ m. replicate m r.below ++ starts_of before) (let e : r.levels ≡ n + (r.levels - n) = omega (arith, less) in e)
        ∙ ap (λ ms. ms ++ starts_of before) (in_parts n (r.levels - n) r.below)
        ∙ append_assoc (replicate n r.below) (replicate (r.levels - n) r.below) (starts_of before)
        ∙ ap (λ ms. replicate n r.below ++ ms) (sym (ap starts_of put ∙ starts-last before left))

    pub some-open : AreOpen rs → AreOpen (set rs (length rs - 1) left)
    some-open there = subst AreOpen (sym put) (All-push (λ (p : Run). 0 < p.levels) before left (all-open there) (omega (arith, less)))
