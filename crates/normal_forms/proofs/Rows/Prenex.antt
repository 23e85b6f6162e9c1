-- Worked rows of prenex form.
use Rattle.std.specs.Prelude.{◌≡◌, ℕ, [], ◌∷◌, refl}
use Rattle.smt_terms.specs.Sorts.{bool, int, Symbol}
use Rattle.smt_terms.specs.Term.{Term, constant}
use Rattle.smt_terms.specs.Rank.{rank}
use Rattle.smt_terms.specs.Equal.{op_eq}
use Rattle.smt_terms.specs.Fresh.{Supply}
use Rattle.smt_terms.specs.Connectives.{operator_kind, negated, both, either, implies, equal}
use Rattle.smt_terms.proofs.Written.{named, flag, for_all, there_is, xor, ite, whole, supply}
use Rattle.normal_forms.specs.Prenex.{prenex}

abbrev a : Term
a = constant (flag "a")

abbrev b : Term
b = constant (flag "b")

abbrev x : Symbol
x = flag "x"

abbrev y : Symbol
y = named "y" bool

abbrev fv0 : Symbol
fv0 = flag "FV0"

abbrev fv1 : Symbol
fv1 = flag "FV1"

abbrev fv2 : Symbol
fv2 = flag "FV2"

abbrev n : Term
n = constant (named "n" int)

abbrev names : ℕ → Supply
names k = supply ("a" ∷ "b" ∷ "x" ∷ "y" ∷ "n" ∷ []) k

-- (and (exists ((x Bool)) (or x a)) (forall ((x Bool)) (xor x b)))
two_quantifiers : prenex (both (there_is (x ∷ []) (either (constant x) a)) (for_all (x ∷ []) (xor (constant x) b))) (names 0) ≡ (there_is (fv0 ∷ []) (for_all (fv1 ∷ []) (both (either (constant fv0) a) (either (both (constant fv1) (negated b)) (both (negated (constant fv1)) b)))), names 2)
unfolding operator_kind rank op_eq
two_quantifiers = refl

-- all occurrences of one quantified formula go at once
one_formula_twice : prenex (both (there_is (x ∷ []) (either (constant x) a)) (either b (there_is (x ∷ []) (either (constant x) a)))) (names 0) ≡ (there_is (fv0 ∷ []) (both (either (constant fv0) a) (either b (either (constant fv0) a))), names 1)
unfolding operator_kind rank op_eq
one_formula_twice = refl

-- several variables get their names in order, and what stands below them comes next
nested : prenex (negated (for_all (x ∷ y ∷ []) (implies (constant y) (there_is (x ∷ []) (constant x))))) (names 0) ≡ (there_is (fv0 ∷ fv1 ∷ []) (for_all (fv2 ∷ []) (both (constant fv1) (negated (constant fv2)))), names 3)
unfolding operator_kind rank op_eq
nested = refl

-- a quantified formula inside an atom stays
inside_an_atom : prenex (equal n (ite (there_is (x ∷ []) (constant x)) (whole 1) n)) (names 0) ≡ (equal n (ite (there_is (x ∷ []) (constant x)) (whole 1) n), names 0)
unfolding operator_kind rank op_eq
inside_an_atom = refl

without_quantifiers : prenex (negated (both a b)) (names 0) ≡ (either (negated a) (negated b), names 0)
unfolding operator_kind rank op_eq
without_quantifiers = refl
