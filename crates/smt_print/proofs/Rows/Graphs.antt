-- Worked rows: terms with each shared subterm written once.
use Rattle.std.specs.Prelude.{◌≡◌, true, [], ◌∷◌, pos, neg_ℤ, codes, refl}
use Rattle.smt_lex.specs.Names.{is_syntax_word, is_command_word}
use Rattle.smt_terms.specs.declared.op.Op.TheVariants.{Truth, Not, And, Or, Xor, Lt}
use Rattle.smt_terms.specs.Equal.{op_eq}
use Rattle.smt_terms.specs.Sorts.{bool, int, array}
use Rattle.smt_terms.specs.Term.{universal, existential, const_array, Term, over}
use Rattle.smt_print.specs.declared.layout.Layout.TheVariants.{Dag}
use Rattle.smt_print.specs.TermForms.{operator_form}
use Rattle.smt_print.proofs.Rows.Given.{Cases, printed, wanted, p, a, b, x, y, n, leaf, whole, of_one, of_two, of_three, binds}

-- a constant, with a sign or without, is no subterm that gets a name
abbrev leaves : Cases
leaves =
    (p, codes "p")
    ∷ (leaf (Truth true), codes "true")
    ∷ (whole (neg_ℤ (pos 5)), codes "(- 5)")
    ∷ (of_two Lt n (whole (neg_ℤ (pos 5))), codes "(let ((.def_0 (< n (- 5)))) .def_0)")
    ∷ (over (const_array (array int int)) (whole (pos 0) ∷ []), codes "(let ((.def_0 ((as const (Array Int Int)) 0))) .def_0)")
    ∷ []

of_leaves : printed Dag leaves ≡ wanted leaves
unfolding operator_form is_syntax_word is_command_word op_eq
of_leaves = refl

-- a term in which each step uses the one before it twice
abbrev first_step : Term
first_step = of_two And (of_two Or p a) (of_two Or p b)

abbrev second_step : Term
second_step = of_two And (of_two Or first_step a) (of_two Or first_step b)

abbrev shared : Cases
shared =
    (of_two And (of_two Or p a) (of_two Or p a), codes "(let ((.def_0 (or p a))) (let ((.def_1 (and .def_0 .def_0))) .def_1))")
    ∷ (of_three And p (of_one Not p) (of_one Not (of_one Not p)), codes "(let ((.def_0 (not p))) (let ((.def_1 (not .def_0))) (let ((.def_2 (and p .def_0 .def_1))) .def_2)))")
    ∷ (second_step, codes "(let ((.def_0 (or p a))) (let ((.def_1 (or p b))) (let ((.def_2 (and .def_0 .def_1))) (let ((.def_3 (or .def_2 a))) (let ((.def_4 (or .def_2 b))) (let ((.def_5 (and .def_3 .def_4))) .def_5))))))")
    ∷ []

of_shared : printed Dag shared ≡ wanted shared
unfolding operator_form is_syntax_word is_command_word op_eq
of_shared = refl

-- a quantifier is one of the subterms, and what stands in it is named anew
abbrev beside_quantifier : Term
beside_quantifier =
    of_three And (of_two Or p a) (binds universal (codes "x") bool (of_two Xor (of_two Or p a) (of_two Or x (of_two Or p a)))) (of_two Or p a)

abbrev quantifier_in_quantifier : Term
quantifier_in_quantifier = binds universal (codes "x") bool (binds existential (codes "y") bool (of_two And x y))

abbrev all_x : Term
all_x = binds universal (codes "x") bool x

abbrev all_y : Term
all_y = binds universal (codes "y") bool y

abbrev quantified : Cases
quantified =
    (beside_quantifier, codes "(let ((.def_0 (or p a))) (let ((.def_1 (forall ((x Bool)) (let ((.def_0 (or p a))) (let ((.def_1 (or x .def_0))) (let ((.def_2 (xor .def_0 .def_1))) .def_2)))))) (let ((.def_2 (and .def_0 .def_1 .def_0))) .def_2)))")
    ∷ (quantifier_in_quantifier, codes "(let ((.def_0 (forall ((x Bool)) (let ((.def_0 (exists ((y Bool)) (let ((.def_0 (and x y))) .def_0)))) .def_0)))) .def_0)")
    ∷ (of_two Or all_x (of_two Or all_y all_x), codes "(let ((.def_0 (forall ((x Bool)) x))) (let ((.def_1 (forall ((y Bool)) y))) (let ((.def_2 (or .def_1 .def_0))) (let ((.def_3 (or .def_0 .def_2))) .def_3))))")
    ∷ []

of_quantified : printed Dag quantified ≡ wanted quantified
unfolding operator_form is_syntax_word is_command_word op_eq
of_quantified = refl
