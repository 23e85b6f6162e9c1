-- How many bits circuits of vectors of one length have.
use Rattle.std.proofs.Common.{◌≡◌, suc, false, List, [], ◌∷◌, ◌++◌, length, take, refl, ap, sym, ◌∙◌, arith, length-append, length-take-le}
use Rattle.std.proofs.lemmas.List.{length-map, length-replicate}
use Rattle.bit_blast.specs.Circuits.{Gates, constant, inverse, each, inverses, choose, chosen, filled, add, sum, difference, opposite, division, remainder, top, absolute}

length-each : {A : Type 0} (f : A → A → A) (us vs : List A) → length us ≡ length vs → length (each f us vs) ≡ length us
length-each f [] vs e = refl
length-each f (u ∷ us) [] e = absurd cc
length-each f (u ∷ us) (v ∷ vs) e = ap suc (length-each f us vs (cc))

module _ {A : Type 0} (g : Gates A) where
  pub length-chosen : (c : A) (us vs : List A) → length us ≡ length vs → length (chosen g c us vs) ≡ length us
  length-chosen c us vs e = length-each (choose g c) us vs e

  length-filled : (a : A) (us : List A) → length (filled a us) ≡ length us
  length-filled a us = length-replicate (length us) a

  length-add : (us vs : List A) (c : A) → length us ≡ length vs → length (add g us vs c) ≡ length us
  length-add [] vs c e = refl
  length-add (u ∷ us) [] c e = absurd cc
  length-add (u ∷ us) (v ∷ vs) c e = ap suc (length-add us vs _ (cc))

  pub length-sum : (us vs : List A) → length us ≡ length vs → length (sum g us vs) ≡ length us
  length-sum us vs e = length-add us vs (constant g false) e

  pub length-difference : (us vs : List A) → length us ≡ length vs → length (difference g us vs) ≡ length us
  length-difference us vs e = length-add us (inverses g vs) _ (e ∙ sym (length-map vs (inverse g)))

  pub length-opposite : (us : List A) → length (opposite g us) ≡ length us
  length-opposite us = length-difference (filled (constant g false) us) us (length-filled (constant g false) us) ∙ length-filled (constant g false) us

  -- ---- division

  pub length-rest : (us vs : List A) → length (division g us vs).rest ≡ suc (length vs)
  length-rest [] vs = ap suc (length-filled (constant g false) vs)
  length-rest (u ∷ us) vs =
      let divisor : List A = vs ++ constant g false ∷ [] in
      let left : List A = u ∷ take (length vs) (division g us vs).rest in
      let above : length (division g us vs).rest ≡ suc (length vs) = length-rest us vs in
      let taken : length left ≡ suc (length vs) = ap suc (length-take-le (length vs) (division g us vs).rest (omega arith)) in
      let wide : length divisor ≡ suc (length vs) = length-append vs (constant g false ∷ []) ∙ omega arith in
      let same : length left ≡ length divisor = taken ∙ sym wide in
      length-chosen _ (difference g left divisor) left (length-difference left divisor same) ∙ length-difference left divisor same ∙ taken

  length-remainder : (us vs : List A) → length (remainder g us vs) ≡ length vs
  length-remainder us vs = let above = length-rest us vs in length-take-le (length vs) (division g us vs).rest (omega arith)

  pub length-absolute : (us : List A) → length (absolute g us) ≡ length us
  length-absolute us = let same = length-opposite us in length-chosen (top g us) (opposite g us) us same ∙ same

  -- the remainder of the magnitudes of two numbers
  pub length-magnitude : (us vs : List A) → length (remainder g (absolute g us) (absolute g vs)) ≡ length vs
  length-magnitude us vs = length-remainder (absolute g us) (absolute g vs) ∙ length-absolute vs
