-- Tests of all elements of a list that is made of a list for each element of another.
use Rattle.std.proofs.Common.{◌≡◌, Bool, true, List, [], ◌∷◌, All, refl, sym, ◌∙◌}
use Rattle.std.specs.Prelude.{flat_map}
use Rattle.std.specs.List.{list_all}
use Rattle.std.proofs.lemmas.List.Elements.{All-nil, All-cons, All-head, All-tail}
use Rattle.std.proofs.lemmas.List.Folds.{list_all-append}
use Rattle.smt_terms.proofs.Tests.{both_true, and_true}

module _ {X Y : Type 0} (p : Y → Bool) (f : X → List Y) where
  pub all_in_each : (xs : List X) → All (λ x. list_all p (f x) ≡ true) xs → list_all p (flat_map f xs) ≡ true
  all_in_each [] all = refl
  all_in_each (x ∷ xs) all =
      list_all-append p (f x) (flat_map f xs)
      ∙ and_true (list_all p (f x)) (list_all p (flat_map f xs))
      (All-head (λ y. list_all p (f y) ≡ true) x xs all) (all_in_each xs (All-tail (λ y. list_all p (f y) ≡ true) x xs all))

  pub in_each : (xs : List X) → list_all p (flat_map f xs) ≡ true → All (λ x. list_all p (f x) ≡ true) xs
  in_each [] h = All-nil (λ x. list_all p (f x) ≡ true)
  in_each (x ∷ xs) h =
      let parts = both_true (list_all p (f x)) (list_all p (flat_map f xs)) (sym (list_all-append p (f x) (flat_map f xs)) ∙ h) in
      All-cons (λ y. list_all p (f y) ≡ true) x xs parts.0 (in_each xs parts.1)
