-- Worked rows of Shannon's expansion and of self-substitution.
use Rattle.std.specs.Prelude.{◌≡◌, ℕ, true, false, [], ◌∷◌, refl}
use Rattle.smt_terms.specs.Sorts.{int, bit_vector, Symbol}
use Rattle.smt_terms.specs.Term.{Term, constant}
use Rattle.smt_terms.specs.Equal.{op_eq}
use Rattle.smt_terms.specs.Fresh.{Supply}
use Rattle.smt_terms.specs.Connectives.{truth_term, both, either, equal}
use Rattle.smt_terms.proofs.Written.{named, flag, for_all, there_is, xor, ite, whole, supply}
use Rattle.normal_forms.specs.Quantifiers.{shannon, selfsub}

abbrev a : Term
a = constant (flag "a")

abbrev x : Symbol
x = flag "x"

abbrev y : Symbol
y = flag "y"

abbrev v : Symbol
v = named "v" (bit_vector 8)

abbrev w : Symbol
w = named "w" (bit_vector 8)

abbrev fv0 : Symbol
fv0 = named "FV0" (bit_vector 8)

abbrev n : Term
n = constant (named "n" int)

abbrev names : ℕ → Supply
names k = supply ("a" ∷ "x" ∷ "y" ∷ "v" ∷ "w" ∷ "n" ∷ []) k

-- (exists ((x Bool)) (xor x a))
shannon_exists : shannon (there_is (x ∷ []) (xor (constant x) a)) ≡ either (xor (truth_term true) a) (xor (truth_term false) a)
unfolding op_eq
shannon_exists = refl

selfsub_exists : selfsub (there_is (x ∷ []) (xor (constant x) a)) (names 0) ≡ (xor (xor (truth_term true) a) a, names 0)
unfolding op_eq
selfsub_exists = refl

-- the same under forall
shannon_forall : shannon (for_all (x ∷ []) (xor (constant x) a)) ≡ both (xor (truth_term true) a) (xor (truth_term false) a)
unfolding op_eq
shannon_forall = refl

selfsub_forall : selfsub (for_all (x ∷ []) (xor (constant x) a)) (names 0) ≡ (xor (xor (truth_term false) a) a, names 0)
unfolding op_eq
selfsub_forall = refl

-- a variable that does not occur
shannon_unused : shannon (there_is (x ∷ []) a) ≡ either a a
unfolding op_eq
shannon_unused = refl

shannon_unused_forall : shannon (for_all (x ∷ []) a) ≡ both a a
unfolding op_eq
shannon_unused_forall = refl

selfsub_unused : selfsub (there_is (x ∷ []) a) (names 0) ≡ (a, names 0)
unfolding op_eq
selfsub_unused = refl

-- the last variable first: over x and y, y is taken, and then x
shannon_order : shannon (there_is (x ∷ y ∷ []) (both (constant x) (constant y))) ≡ either (either (both (truth_term true) (truth_term true)) (both (truth_term true) (truth_term false))) (either (both (truth_term false) (truth_term true)) (both (truth_term false) (truth_term false)))
unfolding op_eq
shannon_order = refl

selfsub_order : selfsub (there_is (x ∷ y ∷ []) (xor (constant x) (constant y))) (names 0) ≡ (xor (xor (truth_term true) (xor (truth_term true) (truth_term true))) (xor (xor (truth_term true) (xor (truth_term true) (truth_term true))) (truth_term true)), names 0)
unfolding op_eq
selfsub_order = refl

-- bit-vector variables stay
shannon_bits : shannon (for_all (x ∷ v ∷ []) (xor (constant x) (equal (constant v) (constant v)))) ≡ for_all (v ∷ []) (both (xor (truth_term true) (equal (constant v) (constant v))) (xor (truth_term false) (equal (constant v) (constant v))))
unfolding op_eq
shannon_bits = refl

selfsub_bits : selfsub (there_is (v ∷ x ∷ []) (both (constant x) (equal (constant v) (constant v)))) (names 0) ≡ (there_is (v ∷ []) (both (both (truth_term true) (equal (constant v) (constant v))) (equal (constant v) (constant v))), names 0)
unfolding op_eq
selfsub_bits = refl

-- everywhere in the term, from below
shannon_inside : shannon (equal n (ite (there_is (x ∷ []) (for_all (y ∷ []) (constant y))) (whole 1) n)) ≡ equal n (ite (either (both (truth_term true) (truth_term false)) (both (truth_term true) (truth_term false))) (whole 1) n)
unfolding op_eq
shannon_inside = refl

-- self-substitution renames what the body would capture: v is free in the body at true, and bound in it
selfsub_renamed : selfsub (there_is (x ∷ []) (both (equal (constant v) (constant w)) (for_all (v ∷ []) (either (constant x) (equal (constant v) (constant w)))))) (names 0) ≡ (both (equal (constant v) (constant w)) (for_all (fv0 ∷ []) (either (both (equal (constant v) (constant w)) (for_all (v ∷ []) (either (truth_term true) (equal (constant v) (constant w))))) (equal (constant fv0) (constant w)))), names 1)
unfolding op_eq
selfsub_renamed = refl

-- where an inner quantifier binds the variable again, it stays
shannon_shadowed : shannon (there_is (v ∷ []) (there_is (x ∷ []) (both (constant x) (for_all (v ∷ []) (constant x))))) ≡ there_is (v ∷ []) (either (both (truth_term true) (for_all (v ∷ []) (truth_term true))) (both (truth_term false) (for_all (v ∷ []) (truth_term false))))
unfolding op_eq
shannon_shadowed = refl
