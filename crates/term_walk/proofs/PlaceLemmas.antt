-- Places as they are added.
use Rattle.std.proofs.Common.{◌≡◌, ℕ, zero, suc, cond, List, [], ◌∷◌, ◌++◌, is_some, refl, arith}
use Rattle.std.proofs.lemmas.List.Sums.{sum_by-append}
use Rattle.term_walk.specs.declared.kept.Place.{Place}
use Rattle.term_walk.specs.Places.{no_place, place_at, results}

module _ {T : Type 0} where
  pub place_at-push : (ks : List (Place T)) (i : ℕ) → place_at (ks ++ no_place ∷ []) i ≡ place_at ks i
  place_at-push [] zero = refl
  place_at-push [] (suc i) = refl
  place_at-push (k ∷ ks) zero = refl
  place_at-push (k ∷ ks) (suc i) = place_at-push ks i

  pub results-push : (ks : List (Place T)) → results (ks ++ no_place ∷ []) ≡ results ks
  results-push ks = omega (arith, sum_by-append (λ (q : Place T). cond (is_some q.result) 1 0) ks (no_place ∷ []))
