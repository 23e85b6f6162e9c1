-- A term with a subterm that has a number outside the range as its value doesn't stay within the range.
use Rattle.std.proofs.Common.{◌≡◌, ℕ, zero, suc, Bool, true, false, not, ◌&&◌, ◌||◌, inl, inr, List, [], ◌∷◌, refl, ap}
use Rattle.smt_terms.specs.BitVectors.{BitVector}
use Rattle.smt_terms.specs.Equal.{term_eq}
use Rattle.smt_terms.specs.Models.{Model}
use Rattle.smt_terms.specs.Sorts.{Sort, bool, int, bit_vector, array, free_sort, Variable}
use Rattle.smt_terms.specs.Term.{universal, existential, Term, apply, quantified, Terms, none, ◌⨾◌}
use Rattle.smt_terms.specs.Val.{Env, assign, runs, val, value_in_range, fits, fit}
use Rattle.smt_terms.specs.Values.{Value, truth, bits, element, Sizes, over_bits, over_elements, over_values}
use Rattle.smt_terms.proofs.Tests.{both_true, either_true, not_true}
use Rattle.evaluation.specs.Evaluated.{breaks, any_breaks}

and-false : (a b : Bool) → b ≡ false → (a && b) ≡ false
and-false true b e = e
and-false false b e = refl

-- ---- what some choice says against all choices

joined-clash : (a b c d : Bool) → (a ≡ true → c ≡ false) → (b ≡ true → d ≡ false) → (a || b) ≡ true → (c && d) ≡ false
joined-clash true b c d f g h = ap (λ x. x && d) (f refl)
joined-clash false b c d f g h = and-false c d (g h)

bits-clash : (w : ℕ) (A B : BitVector → Bool) → ((bs : BitVector) → A bs ≡ true → B bs ≡ false) → over_bits existential w A ≡ true → over_bits universal w B ≡ false
unfolding over_bits
bits-clash zero A B f h = f [] h
bits-clash (suc w) A B f h =
    joined-clash (over_bits existential w (λ bs. A (false ∷ bs))) (over_bits existential w (λ bs. A (true ∷ bs))) (over_bits universal w (λ bs. B (false ∷ bs))) (over_bits universal w (λ bs. B (true ∷ bs)))
    (bits-clash w (λ bs. A (false ∷ bs)) (λ bs. B (false ∷ bs)) (λ bs. f (false ∷ bs)))
    (bits-clash w (λ bs. A (true ∷ bs)) (λ bs. B (true ∷ bs)) (λ bs. f (true ∷ bs))) h

elements-clash : (n : ℕ) (A B : ℕ → Bool) → ((i : ℕ) → A i ≡ true → B i ≡ false) → over_elements existential n A ≡ true → over_elements universal n B ≡ false
unfolding over_elements
elements-clash zero A B f h = absurd cc
elements-clash (suc n) A B f h = joined-clash (over_elements existential n A) (A n) (over_elements universal n B) (B n) (elements-clash n A B f) (f n) h

over-clash : (s : Sort) (sizes : Sizes) (A B : Value → Bool) → ((v : Value) → A v ≡ true → B v ≡ false) → over_values existential s sizes A ≡ true → over_values universal s sizes B ≡ false
over-clash bool sizes A B f h = joined-clash (A (truth false)) (A (truth true)) (B (truth false)) (B (truth true)) (f (truth false)) (f (truth true)) h
over-clash (bit_vector w) sizes A B f h = bits-clash w (λ bs. A (bits bs)) (λ bs. B (bits bs)) (λ bs. f (bits bs)) h
over-clash (free_sort s) sizes A B f h = elements-clash (sizes s) (λ i. A (element i)) (λ i. B (element i)) (λ i. f (element i)) h
over-clash int sizes A B f h = absurd cc
over-clash (array i e) sizes A B f h = absurd cc

runs-clash : (xs : List Variable) (sizes : Sizes) (A B : Env → Bool) → ((e : Env) → A e ≡ true → B e ≡ false) → (e : Env) → runs existential xs sizes A e ≡ true → runs universal xs sizes B e ≡ false
runs-clash [] sizes A B f e h = f e h
runs-clash (x ∷ xs) sizes A B f e h =
    over-clash x.sort sizes (λ v. runs existential xs sizes A (assign x v e)) (λ v. runs universal xs sizes B (assign x v e)) (λ v. runs-clash xs sizes A B f (assign x v e)) h

mutual
  pub breaks-unfit : (m : Model) (u t : Term) (e : Env) → breaks m u t e ≡ true → fits m t e ≡ false
  breaks-unfit m u (apply h ts) e b =
      let r : Bool = value_in_range (val m (apply h ts) e) in
      elim (either_true (term_eq u (apply h ts) && not r) (any_breaks m u ts e) b) [
        | inl here ↦ and-false (fit m ts e) r (not_true r (both_true (term_eq u (apply h ts)) (not r) here).1)
        | inr below ↦ ap (λ x. x && r) (any-unfit m u ts e below)
      ]
  breaks-unfit m u (quantified q xs t) e b = runs-clash xs m.sizes (λ f. breaks m u t f) (λ f. fits m t f) (λ f. breaks-unfit m u t f) e b

  any-unfit : (m : Model) (u : Term) (ts : Terms) (e : Env) → any_breaks m u ts e ≡ true → fit m ts e ≡ false
  any-unfit m u none e b = absurd cc
  any-unfit m u (t ⨾ ts) e b = elim (either_true (breaks m u t e) (any_breaks m u ts e) b) [
    | inl first ↦ ap (λ x. x && fit m ts e) (breaks-unfit m u t e first)
    | inr rest ↦ and-false (fits m t e) (fit m ts e) (any-unfit m u ts e rest)
  ]
