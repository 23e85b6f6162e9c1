-- The live applications of a function, by their places.
use Rattle.std.proofs.Common.{◌≡◌, ℕ, zero, suc, ◌+◌, ◌<◌, Bool, true, false, cond, List, [], ◌∷◌, ◌++◌, length, map, take, get_or, slice_get, All, Option, Some, None, refl, ap, sym, ◌∙◌, subst, arith}
use Rattle.std.specs.Prelude.{option_map}
use Rattle.std.proofs.lemmas.Bool.Decides.{Decides-eqb}
use Rattle.std.proofs.lemmas.List.{map-append}
use Rattle.std.proofs.lemmas.Option.{slice_get-map, slice_get-get_or, slice_get_within, get_or_from_slice_get}
use Rattle.smt_terms.specs.declared.ids.SymId.{SymId}
use Rattle.smt_terms.specs.Term.{Term}
use Rattle.term_table.specs.Formulas.{Formulas}
use Rattle.ackermann.specs.declared.uses.LiveUse.{LiveUse}
use Rattle.ackermann.specs.LiveUses.{is_use_of, uses_of, IsUseIn}
use Rattle.ackermann.proofs.ReachedUses.{taken-one}

one-of-function : (f : SymId) (us : List LiveUse) (i : ℕ) (w : LiveUse) → slice_get (uses_of f us) i ≡ Some w → is_use_of f w ≡ true
one-of-function f [] i w at = absurd cc
one-of-function f (u ∷ us) i w at = by (is_use_of f u) refl at (λ j. one-of-function f us j w)
  where
    by : (b : Bool) → is_use_of f u ≡ b → slice_get (cond b (u ∷ uses_of f us) (uses_of f us)) i ≡ Some w → ((j : ℕ) → slice_get (uses_of f us) j ≡ Some w → is_use_of f w ≡ true) → is_use_of f w ≡ true
    by false e at behind = behind i at
    by true e at behind = first i at
      where
        first : (j : ℕ) → slice_get (u ∷ uses_of f us) j ≡ Some w → is_use_of f w ≡ true
        first zero at = let same : u ≡ w = cc in ap (is_use_of f) (sym same) ∙ e
        first (suc j) at = behind j at

module _ (us : List LiveUse) (f : SymId) (places : List ℕ) (are : map (slice_get us) places ≡ map (λ (u : LiveUse). Some u) (uses_of f us)) (i : ℕ) (lt : i < length places) where
  told : Some (slice_get us (get_or places i 0)) ≡ option_map (λ (u : LiveUse). Some u) (slice_get (uses_of f us) i)
  told =
      ap (option_map (slice_get us)) (sym (slice_get-get_or places i 0 lt))
      ∙ sym (slice_get-map (slice_get us) places i)
      ∙ ap (λ xs. slice_get xs i) are
      ∙ slice_get-map (λ (u : LiveUse). Some u) (uses_of f us) i

  pub placed : (w : LiveUse) × (slice_get us (get_or places i 0) ≡ Some w) × (slice_get (uses_of f us) i ≡ Some w)
  placed = by (slice_get (uses_of f us) i) refl told
    where
      by : (o : Option LiveUse) → slice_get (uses_of f us) i ≡ o → Some (slice_get us (get_or places i 0)) ≡ option_map (λ (u : LiveUse). Some u) o → (w : LiveUse) × (slice_get us (get_or places i 0) ≡ Some w) × (slice_get (uses_of f us) i ≡ Some w)
      by None e t = absurd cc
      by (Some w) e t = let same : slice_get us (get_or places i 0) ≡ Some w = cc in (w, same, e)

  pub place-within : get_or places i 0 < length us
  place-within = slice_get_within us (get_or places i 0) placed.0 placed.1

  module _ (u : LiveUse) (at : slice_get us (get_or places i 0) ≡ Some u) where
    same-use : placed.0 ≡ u
    same-use = let e = sym placed.1 ∙ at in cc

    pub listed-use : slice_get (uses_of f us) i ≡ Some u
    listed-use = placed.2 ∙ ap (λ (w : LiveUse). Some w) same-use

    pub function-use : u.function.0 ≡ f.0
    function-use = sym ((Decides-eqb f.0 u.function.0).0 (one-of-function f us i u listed-use))

    pub use-in : (t : Formulas) → All (IsUseIn t) us → IsUseIn t u
    use-in t each = subst (IsUseIn t) (get_or_from_slice_get us (get_or places i 0) u u at) (each (get_or places i 0) u place-within)

    pub more-said : (g : LiveUse → Term) → map g (take (i + 1) (uses_of f us)) ≡ map g (take i (uses_of f us)) ++ g u ∷ []
    more-said g =
        let next : i + 1 ≡ suc i = omega arith in
        ap (λ n. map g (take n (uses_of f us))) next ∙ ap (map g) (taken-one (uses_of f us) i u listed-use) ∙ map-append g (take i (uses_of f us)) (u ∷ [])
