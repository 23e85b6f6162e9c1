-- Sizes are read and set by the numbers of sorts.
use Rattle.std.proofs.Common.{◌≡◌, ℕ, ◌<◌, ◌==◌, Bool, true, false, cond, if◌then◌else◌, List, [], ◌∷◌, Option, Some, refl, ap, sym, ◌∙◌, arith}
use Rattle.std.specs.Prelude.{unwrap_or}
use Rattle.std.specs.Map.{lookup}
use Rattle.std.proofs.lemmas.Bool.Decides.{Decides-eqb, nat_tests}
use Rattle.indexmap.specs.IndexMap.{insert_entry}
use Rattle.smt_terms.specs.declared.ids.SortId.{SortId}
use Rattle.smt_terms.specs.contracts.ids.SortIdPartialEq.TheImpl.{ghosts}
use Rattle.smt_values.specs.SizeTable.{size_at, ArePositive}

pub size_at-lookup : (es : List (SortId × ℕ)) (s : SortId) → size_at es s ≡ unwrap_or (lookup (ghosts.eq s) es) 1
size_at-lookup [] s = refl
size_at-lookup (e ∷ es) s = by (size_at-lookup es s) (s.0 == e.0.0)
  where
    by : size_at es s ≡ unwrap_or (lookup (ghosts.eq s) es) 1 → (b : Bool) → (if b then e.1 else size_at es s) ≡ unwrap_or (cond {A = Option ℕ} b (Some e.1) (lookup (ghosts.eq s) es)) 1
    by rest true = refl
    by rest false = rest

pub size_at-positive : (es : List (SortId × ℕ)) (s : SortId) → ArePositive es → 0 < size_at es s
size_at-positive [] s h = omega arith
size_at-positive (e ∷ es) s h = by (size_at-positive es s h.1) (s.0 == e.0.0)
  where
    by : 0 < size_at es s → (b : Bool) → 0 < (if b then e.1 else size_at es s)
    by rest true = h.0
    by rest false = rest

pub ArePositive-insert : (es : List (SortId × ℕ)) (k : SortId) (v : ℕ) → ArePositive es → 0 < v → ArePositive (insert_entry ghosts.eq es k v)
ArePositive-insert [] k v h p = (p, tt)
ArePositive-insert (e ∷ es) k v h p = by (ArePositive-insert es k v h.1 p) (k.0 == e.0.0)
  where
    by : ArePositive (insert_entry ghosts.eq es k v) → (b : Bool) → ArePositive (if◌then◌else◌ {A = List (SortId × ℕ)} b ((e.0, v) ∷ es) (e ∷ insert_entry ghosts.eq es k v))
    by rest true = (p, h.1)
    by rest false = (h.0, rest)

chosen : (s k e a b v : ℕ) → (s ≡ k → s ≡ e → ⊥) → (if s == e then a else (if s == k then v else b)) ≡ (if s == k then v else (if s == e then a else b))
chosen s k e a b v apart = grind (arith, nat_tests)

replaced : (s k e a b v : ℕ) → k ≡ e → (if s == e then v else b) ≡ (if s == k then v else (if s == e then a else b))
replaced s k e a b v same = grind (arith, nat_tests)

pub size_at-insert : (es : List (SortId × ℕ)) (k s : SortId) (v : ℕ) → size_at (insert_entry ghosts.eq es k v) s ≡ (if s.0 == k.0 then v else size_at es s)
size_at-insert [] k s v = refl
size_at-insert (e ∷ es) k s v = by (size_at-insert es k s v) (k.0 == e.0.0) refl
  where
    by : size_at (insert_entry ghosts.eq es k v) s ≡ (if s.0 == k.0 then v else size_at es s) → (b : Bool) → (k.0 == e.0.0) ≡ b
        → size_at (if◌then◌else◌ {A = List (SortId × ℕ)} b ((e.0, v) ∷ es) (e ∷ insert_entry ghosts.eq es k v)) s ≡ (if s.0 == k.0 then v else (if s.0 == e.0.0 then e.1 else size_at es s))
    by rest true h = replaced s.0 k.0 e.0.0 e.1 (size_at es s) v ((Decides-eqb k.0 e.0.0).0 h)
    by rest false h =
        ap (λ n. if s.0 == e.0.0 then e.1 else n) rest
        ∙ chosen s.0 k.0 e.0.0 e.1 (size_at es s) v (λ p q. absurd (let d = (Decides-eqb k.0 e.0.0).1 (sym p ∙ q) in cc))
