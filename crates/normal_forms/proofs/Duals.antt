-- A quantifier over the other truth values is the dual one: not for all is for some not.
use Rattle.std.proofs.Common.{◌≡◌, ℕ, zero, suc, Bool, true, false, not, List, [], ◌∷◌, refl, ap, ◌∙◌}
use Rattle.std.specs.List.{list_all}
use Rattle.smt_terms.specs.Sorts.{Sort, bool, int, bit_vector, array, free_sort, Variable}
use Rattle.smt_terms.specs.Term.{Quantifier, universal, existential}
use Rattle.smt_terms.specs.BitVectors.{BitVector}
use Rattle.smt_terms.specs.Rank.{is_quantifiable}
use Rattle.smt_terms.specs.Values.{Value, truth, bits, Sizes, joined, over_bits, over_values}
use Rattle.smt_terms.specs.Val.{Env, assign, runs}
use Rattle.smt_terms.proofs.Tests.{both_true}
use Rattle.normal_forms.specs.Nnf.{dual}

joined-dual : (q : Quantifier) (a b : Bool) → joined (dual q) (not a) (not b) ≡ not (joined q a b)
joined-dual universal true b = refl
joined-dual universal false b = refl
joined-dual existential true b = refl
joined-dual existential false b = refl

bits-dual : (q : Quantifier) (w : ℕ) (test : BitVector → Bool) → over_bits (dual q) w (λ bs. not (test bs)) ≡ not (over_bits q w test)
unfolding over_bits
bits-dual q zero test = refl
bits-dual q (suc w) test =
    (λ i. joined (dual q) (bits-dual q w (λ bs. test (false ∷ bs)) i) (bits-dual q w (λ bs. test (true ∷ bs)) i))
    ∙ joined-dual q (over_bits q w (λ bs. test (false ∷ bs))) (over_bits q w (λ bs. test (true ∷ bs)))

values-dual : (q : Quantifier) (s : Sort) (sizes : Sizes) (test : Value → Bool) → is_quantifiable s ≡ true → over_values (dual q) s sizes (λ v. not (test v)) ≡ not (over_values q s sizes test)
values-dual q bool sizes test h = joined-dual q (test (truth false)) (test (truth true))
values-dual q (bit_vector w) sizes test h = bits-dual q w (λ bs. test (bits bs))
values-dual q int sizes test h = absurd cc
values-dual q (array i e) sizes test h = absurd cc
values-dual q (free_sort s) sizes test h = absurd cc

pub runs-dual : (q : Quantifier) (xs : List Variable) (sizes : Sizes) (test : Env → Bool) (e : Env) → list_all (λ x. is_quantifiable x.sort) xs ≡ true → runs (dual q) xs sizes (λ d. not (test d)) e ≡ not (runs q xs sizes test e)
runs-dual q [] sizes test e h = refl
runs-dual q (x ∷ xs) sizes test e h =
    let parts = both_true (is_quantifiable x.sort) (list_all (λ y. is_quantifiable y.sort) xs) h in
    ap (over_values (dual q) x.sort sizes) (λ i v. runs-dual q xs sizes test (assign x v e) parts.1 i)
    ∙ values-dual q x.sort sizes (λ v. runs q xs sizes test (assign x v e)) parts.0
