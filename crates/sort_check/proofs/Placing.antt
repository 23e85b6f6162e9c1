-- Written operators by the places that their names go to.
use Rattle.std.proofs.Common.{◌≡◌, ℕ, zero, suc, ◌+◌, ◌<◌, arith, nat_eq, Bool, true, cond, ◌&&◌, List, [], ◌∷◌, length, Some, None, refl, ap, sym, ◌∙◌, inl, inr}
use Rattle.std.proofs.lemmas.Bool.Decides.{Decides-eqb}
use Rattle.smt_terms.specs.Sorts.{Name}
use Rattle.smt_terms.specs.Equal.{name_eq}
use Rattle.smt_terms.proofs.Equal.{name_same}
use Rattle.smt_terms.proofs.Tests.{both_true, true_or_false}
use Rattle.smt_terms.specs.Written.{Indexed, named_in, operator_named}
use Rattle.sort_check.specs.declared.written.TheConstants.{PLACES}
use Rattle.sort_check.specs.Slots.{slot, place_by, named_at}
use Rattle.sort_check.proofs.Names.{all_operators, named_in-all}

module _ (place : Name → ℕ) where
  -- the names go to the places from k on, in their order
  abbrev placed : ℕ → List (Name × Indexed) → Bool
  placed k [] = true
  placed k (p ∷ ps) = nat_eq (place p.0) k && placed (suc k) ps

  place_of_same : (k : ℕ) (p : Name × Indexed) (n : Name) → nat_eq (place p.0) k ≡ true → name_eq p.0 n ≡ true → place n ≡ k
  place_of_same k p n at same = sym (ap place (name_same p.0 n same)) ∙ (Decides-eqb (place p.0) k).0 at

  named_before : (k : ℕ) (ps : List (Name × Indexed)) (n : Name) → placed k ps ≡ true → place n < k → named_in ps n ≡ None
  named_before k [] n all lt = refl
  named_before k (p ∷ ps) n all lt =
      let both = both_true (nat_eq (place p.0) k) (placed (suc k) ps) all in
      elim (true_or_false (name_eq p.0 n)) [
        | inl same ↦ absurd (let is = place_of_same k p n both.0 same in omega arith)
        | inr apart ↦ ap (λ b. cond b (Some p.1) (named_in ps n)) apart ∙ named_before (suc k) ps n both.1 (omega arith)
      ]

  -- a name is that of the operator at its place, or of none
  at_place : (k j : ℕ) (ps : List (Name × Indexed)) (n : Name) → placed k ps ≡ true → place n ≡ j + k → j < length ps → named_at ps j n ≡ named_in ps n
  at_place k j [] n all is lt = absurd (omega arith)
  at_place k zero (p ∷ ps) n all is lt =
      let both = both_true (nat_eq (place p.0) k) (placed (suc k) ps) all in
      ap (cond (name_eq p.0 n) (Some p.1)) (sym (named_before (suc k) ps n both.1 (omega arith)))
  at_place k (suc j) (p ∷ ps) n all is lt =
      let both = both_true (nat_eq (place p.0) k) (placed (suc k) ps) all in
      elim (true_or_false (name_eq p.0 n)) [
        | inl same ↦ absurd (let at = place_of_same k p n both.0 same in omega arith)
        | inr apart ↦ at_place (suc k) j ps n both.1 (omega arith) (omega arith) ∙ sym (ap (λ b. cond b (Some p.1) (named_in ps n)) apart)
      ]

pub by_place : (n : Name) (k : ℕ) → k ≡ place_by PLACES n → k < 56 → named_at all_operators k n ≡ operator_named n
unfolding slot
by_place n k is lt = at_place (place_by PLACES) 0 k all_operators n refl (omega arith) lt ∙ named_in-all n

pub empty_name : (n : Name) → length n ≡ 0 → None ≡ operator_named n
unfolding operator_named
empty_name [] none = refl
empty_name (a ∷ n) none = absurd (omega arith)
