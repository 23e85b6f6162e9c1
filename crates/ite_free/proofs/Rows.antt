-- Worked rows of the removal of `ite` over terms.
use Rattle.std.specs.Prelude.{◌≡◌, ℕ, [], ◌∷◌, refl}
use Rattle.smt_terms.specs.declared.op.Op.TheVariants.{Bits, BvUlt}
use Rattle.smt_terms.specs.Sorts.{int, bit_vector, Symbol}
use Rattle.smt_terms.specs.Term.{op, Term, apply, none, ◌⨾◌, constant}
use Rattle.smt_terms.specs.Equal.{op_eq}
use Rattle.smt_terms.specs.Rank.{rank}
use Rattle.smt_terms.specs.Fresh.{Supply}
use Rattle.smt_terms.specs.Connectives.{operator_kind, negated, both, either, implies, equal}
use Rattle.smt_terms.specs.Shapes.{is_ite_operator}
use Rattle.smt_terms.proofs.Written.{named, flag, there_is, whole, supply}
use Rattle.smt_terms.proofs.Written.{ite as if_then_else}
use Rattle.ite_free.specs.Ite.{ite}

abbrev p : Term
p = constant (flag "p")

abbrev q : Term
q = constant (flag "q")

abbrev x : Term
x = constant (named "x" (bit_vector 8))

abbrev y : Term
y = constant (named "y" (bit_vector 8))

abbrev n : Term
n = constant (named "n" int)

abbrev below : Term → Term → Term
below s t = apply (op BvUlt) (s ⨾ t ⨾ none)

abbrev three : Term
three = apply (op (Bits 8 3)) none

abbrev names : ℕ → Supply
names k = supply ("p" ∷ "q" ∷ "x" ∷ "y" ∷ "n" ∷ []) k

abbrev fv0 : Symbol
fv0 = named "FV0" (bit_vector 8)

-- (bvult (ite p x y) #x03)
one_ite : ite (below (if_then_else p x y) three) (names 0) ≡ record { group = record { symbols = (fv0, if_then_else p x y) ∷ []; asserts = implies p (equal (constant fv0) x) ∷ implies (negated p) (equal (constant fv0) y) ∷ below (constant fv0) three ∷ [] }; names = names 1 }
unfolding operator_kind rank op_eq is_ite_operator
one_ite = refl

abbrev i0 : Symbol
i0 = named "FV0" int

abbrev i1 : Symbol
i1 = named "FV1" int

abbrev inner : Term
inner = if_then_else (negated q) (whole 1) n

abbrev outer : Term
outer = if_then_else (equal inner (whole 2)) inner (whole 3)

-- the inner one is drawn first, stands for itself wherever it occurs, and its condition keeps its `not` below another one;
-- what a constant stands for is the term as it was
nested : ite (equal n outer) (names 0) ≡ record { group = record { symbols = (i0, inner) ∷ (i1, outer) ∷ []; asserts = implies (negated q) (equal (constant i0) (whole 1)) ∷ implies (negated (negated q)) (equal (constant i0) n) ∷ implies (equal (constant i0) (whole 2)) (equal (constant i1) (constant i0)) ∷ implies (negated (equal (constant i0) (whole 2))) (equal (constant i1) (whole 3)) ∷ equal n (constant i1) ∷ [] }; names = names 2 }
unfolding operator_kind rank op_eq is_ite_operator
nested = refl

-- an `ite` over truth values stays, and what stands below a quantifier stays, also where it occurs outside too
kept : ite (both (if_then_else p q (equal inner n)) (there_is (flag "z" ∷ []) (equal inner n))) (names 0) ≡ record { group = record { symbols = (i0, inner) ∷ []; asserts = implies (negated q) (equal (constant i0) (whole 1)) ∷ implies (negated (negated q)) (equal (constant i0) n) ∷ both (if_then_else p q (equal (constant i0) n)) (there_is (flag "z" ∷ []) (equal inner n)) ∷ [] }; names = names 1 }
unfolding operator_kind rank op_eq is_ite_operator
kept = refl

without_ite : ite (either p q) (names 0) ≡ record { group = record { symbols = []; asserts = either p q ∷ [] }; names = names 0 }
unfolding operator_kind rank op_eq is_ite_operator
without_ite = refl
