-- Levels that are changed one by one, so that what opens, closes and empties them comes to the same before the change and after.
use Rattle.std.proofs.Common.{◌≡◌, ◌∙◌, sym, ap, refl, ℕ, zero, suc, Bool, true, false, List, [], ◌∷◌, ◌++◌, map, drop, replicate}
use Rattle.script_read.specs.Commands.{Level, empty_level, throughout, on_latest, with_declarations, folded, levels_popped}

module _ {A B : Type 0} (turn : Level A → Level B) where
  pub mapped_latest : turn empty_level ≡ empty_level → (change : Level A → Level A) (behind : Level B → Level B) → ((l : Level A) → behind (turn l) ≡ turn (change l)) → (ls : List (Level A)) → on_latest behind (map turn ls) ≡ map turn (on_latest change ls)
  mapped_latest empty change behind same [] = ap (λ l. l ∷ []) (ap behind (sym empty) ∙ same empty_level)
  mapped_latest empty change behind same (l ∷ ls) = ap (λ k. k ∷ map turn ls) (same l)

  pub mapped_push : turn empty_level ≡ empty_level → (n : ℕ) (ls : List (Level A)) → replicate n empty_level ++ map turn ls ≡ map turn (replicate n empty_level ++ ls)
  mapped_push empty zero ls = refl
  mapped_push empty (suc n) ls = λ i. sym empty i ∷ mapped_push empty n ls i

  pub mapped_drop : (n : ℕ) (ls : List (Level A)) → drop n (map turn ls) ≡ map turn (drop n ls)
  mapped_drop zero ls = refl
  mapped_drop (suc n) [] = refl
  mapped_drop (suc n) (l ∷ ls) = mapped_drop n ls

  mapped_fold : ((k l : Level A) → with_declarations (turn k) (turn l) ≡ turn (with_declarations k l)) → (n : ℕ) (ls : List (Level A)) → folded n (map turn ls) ≡ map turn (folded n ls)
  mapped_fold below zero ls = refl
  mapped_fold below (suc n) [] = refl
  mapped_fold below (suc n) (l ∷ []) = refl
  mapped_fold below (suc n) (k ∷ l ∷ ls) = ap (λ j. folded n (j ∷ map turn ls)) (below k l) ∙ mapped_fold below n (with_declarations k l ∷ ls)

  pub mapped_pop : ((k l : Level A) → with_declarations (turn k) (turn l) ≡ turn (with_declarations k l)) → (b : Bool) (n : ℕ) (ls : List (Level A)) → levels_popped b n (map turn ls) ≡ map turn (levels_popped b n ls)
  mapped_pop below true n ls = mapped_fold below n ls
  mapped_pop below false n ls = mapped_drop n ls

  pub mapped_throughout : {C : Type 0} (part : Level A → List C) (behind : Level B → List C) → ((l : Level A) → behind (turn l) ≡ part l) → (ls : List (Level A)) → throughout behind (map turn ls) ≡ throughout part ls
  mapped_throughout part behind same [] = refl
  mapped_throughout part behind same (l ∷ ls) = λ i. mapped_throughout part behind same ls i ++ same l i
