-- Worked rows of substitution.
use Rattle.std.specs.Prelude.{◌≡◌, ℕ, pos, negsuc, List, [], ◌∷◌, codes, refl}
use Rattle.smt_terms.specs.declared.op.Op.TheVariants.{And, Xor, Equal, Neg, Whole}
use Rattle.smt_terms.specs.Sorts.{bool, int, Symbol, Variable}
use Rattle.smt_terms.specs.Term.{existential, op, Term, apply, quantified, none, ◌⨾◌, constant}
use Rattle.smt_terms.specs.Equal.{op_eq}
use Rattle.smt_terms.specs.Fresh.{Supply}
use Rattle.smt_terms.specs.Subst.{subst, expand, parameter}

abbrev a : Symbol
a = record { name = codes "a"; args = []; result = bool }

abbrev x : Symbol
x = record { name = codes "x"; args = []; result = bool }

abbrev y : Symbol
y = record { name = codes "y"; args = []; result = bool }

abbrev z : Symbol
z = record { name = codes "z"; args = []; result = bool }

abbrev n : Symbol
n = record { name = codes "n"; args = []; result = int }

abbrev m : Symbol
m = record { name = codes "m"; args = []; result = int }

abbrev fv0 : Symbol
fv0 = record { name = codes "FV0"; args = []; result = bool }

abbrev fv1 : Symbol
fv1 = record { name = codes "FV1"; args = []; result = bool }

abbrev fv2 : Symbol
fv2 = record { name = codes "FV2"; args = []; result = bool }

abbrev as_bound : Symbol → Variable
as_bound f = record { name = f.name; sort = f.result }

abbrev exists : List Variable → Term → Term
exists xs t = quantified existential xs t

abbrev xor : Term → Term → Term
xor s t = apply (op Xor) (s ⨾ t ⨾ none)

abbrev and : Term → Term → Term
and s t = apply (op And) (s ⨾ t ⨾ none)

abbrev whole : ℕ → Term
whole k = apply (op (Whole (pos k))) none

abbrev names : Supply
names = record { taken = codes "a" ∷ codes "x" ∷ codes "y" ∷ codes "z" ∷ codes "n" ∷ []; number = 0 }

abbrev left : ℕ → Supply
left k = record { taken = names.taken; number = k }

-- a replaced by x below a quantifier over x: the quantified x is renamed
captured : subst ((a, constant x) ∷ []) (exists (as_bound x ∷ []) (xor (constant x) (constant a))) names ≡ (exists (as_bound fv0 ∷ []) (xor (constant fv0) (constant x)), left 1)
unfolding op_eq
captured = refl

-- the same with an image of another sort that is called x
captured_by_name : subst ((n, constant (record { name = codes "x"; args = []; result = int })) ∷ []) (exists (as_bound x ∷ []) (and (constant x) (apply (op Equal) (constant n ⨾ whole 0 ⨾ none)))) names ≡ (exists (as_bound fv0 ∷ []) (and (constant fv0) (apply (op Equal) (constant (record { name = codes "x"; args = []; result = int }) ⨾ whole 0 ⨾ none))), left 1)
unfolding op_eq
captured_by_name = refl

-- no renaming where the bound name isn't in an image
not_captured : subst ((a, constant y) ∷ []) (exists (as_bound x ∷ []) (xor (constant x) (constant a))) names ≡ (exists (as_bound x ∷ []) (xor (constant x) (constant y)), left 0)
unfolding op_eq
not_captured = refl

-- nor where what would be captured takes the place of a symbol that isn't free there
not_free : subst ((a, constant x) ∷ []) (exists (as_bound x ∷ []) (xor (constant x) (constant y))) names ≡ (exists (as_bound x ∷ []) (xor (constant x) (constant y)), left 0)
unfolding op_eq
not_free = refl

-- two variables of one quantifier, from left to right
both_captured : subst ((a, and (constant y) (constant x)) ∷ []) (exists (as_bound x ∷ as_bound z ∷ as_bound y ∷ []) (xor (constant y) (and (constant x) (and (constant z) (constant a))))) names ≡ (exists (as_bound fv0 ∷ as_bound z ∷ as_bound fv1 ∷ []) (xor (constant fv1) (and (constant fv0) (and (constant z) (and (constant y) (constant x))))), left 2)
unfolding op_eq
both_captured = refl

abbrev quantified_once : Term
quantified_once = exists (as_bound x ∷ []) (xor (constant x) (constant a))

-- one subterm met twice under one cut map gets one choice of names
one_choice : subst ((a, constant x) ∷ []) (and quantified_once quantified_once) names ≡ (and (exists (as_bound fv0 ∷ []) (xor (constant fv0) (constant x))) (exists (as_bound fv0 ∷ []) (xor (constant fv0) (constant x))), left 1)
unfolding op_eq
one_choice = refl

-- the same subterm below a quantifier that renames what is free in it: another cut map, another choice. Below the
-- quantifier over y, z stands for FV0, and so the subterm's map is (a ↦ (and x y), z ↦ FV0)
abbrev shared : Term
shared = exists (as_bound x ∷ []) (xor (constant x) (and (constant a) (constant z)))

two_choices : subst ((a, constant x) ∷ (y, constant z) ∷ []) (and shared (exists (as_bound z ∷ []) (and shared (constant y)))) names ≡ (and (exists (as_bound fv0 ∷ []) (xor (constant fv0) (and (constant x) (constant z)))) (exists (as_bound fv1 ∷ []) (and (exists (as_bound fv2 ∷ []) (xor (constant fv2) (and (constant x) (constant fv1)))) (constant z))), left 3)
unfolding op_eq
two_choices = refl

-- a larger map in force doesn't count, where the cut map is the same: below the quantifier over z, which is renamed,
-- the second occurrence has the choice of the first
same_cut : subst ((a, constant x) ∷ (y, constant z) ∷ []) (and quantified_once (exists (as_bound z ∷ []) (and (and quantified_once (constant z)) (constant y)))) names ≡ (and (exists (as_bound fv0 ∷ []) (xor (constant fv0) (constant x))) (exists (as_bound fv1 ∷ []) (and (and (exists (as_bound fv0 ∷ []) (xor (constant fv0) (constant x))) (constant fv1)) (constant z))), left 2)
unfolding op_eq
same_cut = refl

-- names are drawn outside in
outside_in : subst ((a, and (constant x) (constant y)) ∷ []) (exists (as_bound x ∷ []) (exists (as_bound y ∷ []) (and (and (constant x) (constant y)) (constant a)))) names ≡ (exists (as_bound fv0 ∷ []) (exists (as_bound fv1 ∷ []) (and (and (constant fv0) (constant fv1)) (and (constant x) (constant y)))), left 2)
unfolding op_eq
outside_in = refl

-- all replacements happen at once
at_once : subst ((x, constant y) ∷ (y, constant x) ∷ []) (and (constant x) (constant y)) names ≡ (and (constant y) (constant x), left 0)
unfolding op_eq
at_once = refl

-- a bound symbol isn't replaced
shadowed : subst ((x, constant y) ∷ []) (and (constant x) (exists (as_bound x ∷ []) (constant x))) names ≡ (and (constant y) (exists (as_bound x ∷ []) (constant x)), left 0)
unfolding op_eq
shadowed = refl

-- a unary minus whose operand becomes a constant becomes the constant
minus_of_constant : subst ((n, whole 5) ∷ []) (apply (op Neg) (constant n ⨾ none)) names ≡ (apply (op (Whole (negsuc 4))) none, left 0)
unfolding op_eq
minus_of_constant = refl

-- a minus over anything else is made as it stands
minus_of_minus : subst ((n, apply (op Neg) (constant m ⨾ none)) ∷ []) (apply (op Neg) (constant n ⨾ none)) names ≡ (apply (op Neg) (apply (op Neg) (constant m ⨾ none) ⨾ none), left 0)
unfolding op_eq
minus_of_minus = refl

-- f over the parameter a, (exists ((x Bool)) (xor x a)), at x: the body's x is renamed
expanded : expand (parameter 0 bool ∷ []) (exists (as_bound x ∷ []) (xor (constant x) (constant (parameter 0 bool)))) (constant x ∷ []) names ≡ (exists (as_bound fv0 ∷ []) (xor (constant fv0) (constant x)), left 1)
unfolding op_eq
expanded = refl

parameter_name : (parameter 12 int).name ≡ codes "@p12"
parameter_name = refl
