-- All values of a sort that a variable may have, by their numbers.
use Rattle.std.proofs.Common.{◌≡◌, ℕ, zero, suc, ◌-◌, ◌^◌, ◌<◌, ◌==◌, Bool, true, false, not, ◌&&◌, ◌||◌, [], ◌∷◌, Some, refl, ap, sym, ◌∙◌, arith}
use Rattle.std.proofs.lemmas.Bool.Decides.{nat_tests, Decides-eqb}
use Rattle.std.proofs.lemmas.Nat.{pow_pos}
use Rattle.smt_terms.specs.BitVectors.{BitVector}
use Rattle.smt_terms.specs.Rank.{is_quantifiable}
use Rattle.smt_terms.specs.Sorts.{Name, Sort, bool, int, bit_vector, array, free_sort}
use Rattle.smt_terms.specs.Term.{Quantifier, universal, existential}
use Rattle.smt_terms.specs.Val.{sort_bits}
use Rattle.smt_terms.specs.Values.{Value, truth, bits, Sizes, joined, over_bits, over_elements, over_values}
use Rattle.smt_terms.proofs.Tests.{both_true, and_true, alike_from}
use Rattle.smt_values.specs.Numbered.{numbered, last_number}
use Rattle.smt_values.proofs.Numbered.{over_numbers, over_numbered}

-- ---- some choice as not all choices

turned : (a b c d : Bool) → a ≡ not c → b ≡ not d → (a || b) ≡ not (c && d)
turned a b true d e f = (λ i. e i || b) ∙ f
turned a b false d e f = ap (λ x. x || b) e

bits-turned : (w : ℕ) (test : BitVector → Bool) → over_bits existential w test ≡ not (over_bits universal w (λ bs. not (test bs)))
unfolding over_bits
bits-turned zero test = twice (test [])
  where
    twice : (a : Bool) → a ≡ not (not a)
    twice true = refl
    twice false = refl
bits-turned (suc w) test =
    turned (over_bits existential w (λ bs. test (false ∷ bs))) (over_bits existential w (λ bs. test (true ∷ bs))) (over_bits universal w (λ bs. not (test (false ∷ bs)))) (over_bits universal w (λ bs. not (test (true ∷ bs))))
    (bits-turned w (λ bs. test (false ∷ bs))) (bits-turned w (λ bs. test (true ∷ bs)))

twice-not : (a : Bool) → a ≡ not (not a)
twice-not true = refl
twice-not false = refl

elements-turned : (n : ℕ) (test : ℕ → Bool) → over_elements existential n test ≡ not (over_elements universal n (λ i. not (test i)))
unfolding over_elements
elements-turned zero test = refl
elements-turned (suc n) test = turned (over_elements existential n test) (test n) (over_elements universal n (λ i. not (test i))) (not (test n)) (elements-turned n test) (twice-not (test n))

values-turned : (s : Sort) (sizes : Sizes) (test : Value → Bool) → is_quantifiable s ≡ true → over_values existential s sizes test ≡ not (over_values universal s sizes (λ v. not (test v)))
values-turned bool sizes test e = turned (test (truth false)) (test (truth true)) (not (test (truth false))) (not (test (truth true))) (twice-not (test (truth false))) (twice-not (test (truth true)))
values-turned (bit_vector w) sizes test e = bits-turned w (λ bs. test (bits bs))
values-turned int sizes test e = absurd cc
values-turned (array i j) sizes test e = absurd cc
values-turned (free_sort n) sizes test e = absurd cc

-- ---- all choices by numbers

elements-all : (n : ℕ) (test : ℕ → Bool) (i : ℕ) → over_elements universal n test ≡ true → i < n → test i ≡ true
unfolding over_elements
elements-all zero test i h lt = absurd (omega arith)
elements-all (suc n) test i h lt = by (both_true (over_elements universal n test) (test n) h) (λ h lt. elements-all n test i h lt) (i == n) refl
  where
    by : (over_elements universal n test ≡ true) × (test n ≡ true) → (over_elements universal n test ≡ true → i < n → test i ≡ true) → (b : Bool) → (i == n) ≡ b → test i ≡ true
    by parts rest true e = ap test ((Decides-eqb i n).0 e) ∙ parts.1
    by parts rest false e = rest parts.0 (grind (arith, nat_tests))

elements-from : (n : ℕ) (test : ℕ → Bool) → ((i : ℕ) → i < n → test i ≡ true) → over_elements universal n test ≡ true
unfolding over_elements
elements-from zero test f = refl
elements-from (suc n) test f = and_true (over_elements universal n test) (test n) (elements-from n test (λ i lt. f i (omega arith))) (f n (omega arith))

last-is : (s : Sort) (sizes : Sizes) → is_quantifiable s ≡ true → last_number s sizes ≡ Some (2 ^ sort_bits s - 1)
last-is bool sizes e = refl
last-is (bit_vector w) sizes e = refl
last-is int sizes e = absurd cc
last-is (array i j) sizes e = absurd cc
last-is (free_sort n) sizes e = absurd cc

not-free : (s : Sort) (sizes : Sizes) → is_quantifiable s ≡ true → (name : Name) → s ≡ free_sort name → 0 < sizes name
not-free s sizes e name is = let no : false ≡ true = ap is_quantifiable (sym is) ∙ e in absurd cc

all-counted : (s : Sort) (sizes : Sizes) (test : Value → Bool) → is_quantifiable s ≡ true → over_values universal s sizes test ≡ over_elements universal (2 ^ sort_bits s) (λ i. test (numbered s i))
all-counted s sizes test e =
    let positive = pow_pos (sort_bits s) in
    alike_from (over_values universal s sizes test) (over_elements universal (2 ^ sort_bits s) (λ i. test (numbered s i)))
    (λ h. elements-from (2 ^ sort_bits s) (λ i. test (numbered s i)) (λ i lt. over_numbers s sizes test (2 ^ sort_bits s - 1) i (not-free s sizes e) (last-is s sizes e) h (omega (arith, positive))))
    (λ h. over_numbered s sizes test (2 ^ sort_bits s - 1) (last-is s sizes e) (λ n le. elements-all (2 ^ sort_bits s) (λ i. test (numbered s i)) n h (omega (arith, positive))))

pub over-counted : (q : Quantifier) (s : Sort) (sizes : Sizes) (test : Value → Bool) → is_quantifiable s ≡ true → over_values q s sizes test ≡ over_elements q (2 ^ sort_bits s) (λ i. test (numbered s i))
over-counted universal s sizes test e = all-counted s sizes test e
over-counted existential s sizes test e =
    values-turned s sizes test e
    ∙ ap not (all-counted s sizes (λ v. not (test v)) e)
    ∙ sym (elements-turned (2 ^ sort_bits s) (λ i. test (numbered s i)))

-- one number more
pub elements-more : (q : Quantifier) (n : ℕ) (test : ℕ → Bool) → over_elements q (suc n) test ≡ joined q (over_elements q n test) (test n)
unfolding over_elements
elements-more q n test = refl

-- what holds at one number holds at some
pub elements-some : (n : ℕ) (test : ℕ → Bool) (i : ℕ) → i < n → test i ≡ true → over_elements existential n test ≡ true
unfolding over_elements
elements-some zero test i lt h = absurd (omega arith)
elements-some (suc n) test i lt h = by (i == n) refl (λ lt. elements-some n test i lt h)
  where
    by : (b : Bool) → (i == n) ≡ b → (i < n → over_elements existential n test ≡ true) → (over_elements existential n test || test n) ≡ true
    by true e rest = right (over_elements existential n test) (test n) (ap test (sym ((Decides-eqb i n).0 e)) ∙ h)
      where
        right : (a b : Bool) → b ≡ true → (a || b) ≡ true
        right true b e = refl
        right false b e = e
    by false e rest = ap (λ x. x || test n) (rest (grind (arith, nat_tests)))
