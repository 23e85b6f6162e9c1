-- A list with one element more, and the same list, seen by their places.
use Rattle.std.proofs.Common.{◌≡◌, ℕ, zero, suc, ◌+◌, ◌<◌, inl, inr, ◌⊎◌, List, [], ◌∷◌, ◌++◌, length, get_or, Contains, ap, ◌∙◌, arith, length-append}
use Rattle.std.proofs.Math.ListN.{get_or-append}
use Rattle.std.proofs.Math.Seq.{get_or-append_seam}
use Rattle.term_table.specs.Formulas.{Adds, GrowsByOne}

pub either_place : (n i : ℕ) → i < n + 1 → (i < n) ⊎ (i ≡ n)
either_place zero i lt = inr (omega arith)
either_place (suc n) zero lt = inl (omega arith)
either_place (suc n) (suc i) lt = elim (either_place n i (omega arith)) [ inl a ↦ inl (omega arith) | inr b ↦ inr (ap suc b) ]

module _ {X : Type 0} (old new : List X) where
  pub grows-same : new ≡ old → GrowsByOne old new
  grows-same e =
      let count : length new ≡ length old = ap length e in
      record { grows = record { longer = omega arith; same = λ i d lt. ap (λ xs. get_or xs i d) e }; one = omega arith }

  module _ (x : X) (e : new ≡ old ++ x ∷ []) where
    length_pushed : length new ≡ length old + 1
    length_pushed = ap length e ∙ length-append old (x ∷ [])

    pub grows-push : GrowsByOne old new
    grows-push =
        let count = length_pushed in
        record {
          grows = record { longer = omega (arith, count); same = λ i d lt. ap (λ xs. get_or xs i d) e ∙ get_or-append old (x ∷ []) d i lt };
          one = omega (arith, count);
        }

    pub adds-push : (Contains old x → ⊥) → Adds old new x
    adds-push absent = inr (e, absent)

    pub within-push : (n : ℕ) → n ≡ length old → n < length new
    within-push n is = let count = length_pushed in omega (arith, count)

    pub seam-push : (n : ℕ) (d : X) → n ≡ length old → get_or new n d ≡ x
    seam-push n d is = (λ i. get_or (e i) (is i) d) ∙ get_or-append_seam old x [] d
