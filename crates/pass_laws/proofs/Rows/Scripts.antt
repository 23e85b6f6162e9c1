-- Worked rows of scripts behind passes.
use Rattle.std.specs.Prelude.{◌≡◌, true, [], ◌∷◌, codes, Some, None, refl}
use Rattle.smt_terms.specs.Sorts.{bool, int, Symbol}
use Rattle.smt_terms.specs.Term.{Term, constant}
use Rattle.smt_terms.specs.Connectives.{operator_kind, negated, either, implies, equal, any_of}
use Rattle.smt_terms.specs.Constants.{literal_value}
use Rattle.smt_terms.specs.Equal.{op_eq}
use Rattle.smt_terms.specs.Operators.{op_value}
use Rattle.smt_terms.specs.Rank.{rank}
use Rattle.smt_terms.specs.Shapes.{is_ite_operator}
use Rattle.smt_terms.proofs.Written.{named, flag, function, call, for_all, distinct, whole, supply}
use Rattle.simplify.specs.Simplify.{law}
use Rattle.script_read.specs.Commands.{passed as passed_on, declare_sort, declare, assert, check, check_assuming, push, pop, globals, exit}
use Rattle.pass_laws.specs.declared.names.Pass.TheVariants.{Simplify, Nnf, Rules, Ite, Cnf, Ackermann}
use Rattle.pass_laws.specs.Passed.{passed, refused_assertion}
use Rattle.pass_laws.proofs.Rows.Given.{Commands, a, b, over_arrays, array_names, u, x, y, nested, nested_names, A, B, C, D, formulas, formula_names, byte, p, v, w, three, below, source_text, logic_text, choice, choice_names, levels, level_names, outliving, outliving_names}

abbrev clause : Term → Term → Term → Term
clause k l m = any_of (k ∷ l ∷ m ∷ [])

-- ---- applications of a function over arrays

abbrev i0 : Symbol
i0 = named "FV0" int

abbrev i1 : Symbol
i1 = named "FV1" int

abbrev i2 : Symbol
i2 = named "FV2" int

without_array_function : (passed (Ackermann ∷ []) over_arrays array_names).0 ≡ declare a ∷ declare b ∷ declare i0 ∷ assert 1 (equal (constant i0) (whole 0)) ∷ declare i1 ∷ assert 2 (implies (equal (constant a) (constant b)) (equal (constant i0) (constant i1))) ∷ assert 2 (distinct (constant i1 ∷ whole 0 ∷ [])) ∷ check ∷ []
unfolding rank op_eq
without_array_function = refl

-- the next pass draws on
names_left : (passed (Ackermann ∷ []) over_arrays array_names).1 ≡ record { taken = array_names.taken; number = 2 }
unfolding rank op_eq
names_left = refl

-- ---- applications of a function to its own result

abbrev e0 : Symbol
e0 = named "FV0" u

abbrev e1 : Symbol
e1 = named "FV1" u

abbrev e2 : Symbol
e2 = named "FV2" u

without_nested_function : (passed (Ackermann ∷ []) nested nested_names).0 ≡ declare_sort (codes "U") ∷ declare x ∷ declare y ∷ declare e0 ∷ declare e1 ∷ assert 1 (implies (equal (constant x) (constant e0)) (equal (constant e0) (constant e1))) ∷ assert 1 (equal (constant e1) (constant x)) ∷ declare e2 ∷ assert 2 (implies (equal (constant x) (constant y)) (equal (constant e0) (constant e2))) ∷ assert 2 (implies (equal (constant e0) (constant y)) (equal (constant e1) (constant e2))) ∷ assert 2 (equal (constant e2) (constant x)) ∷ check ∷ []
unfolding rank op_eq
without_nested_function = refl

-- ---- clauses; the name that is declared later isn't drawn

abbrev n1 : Symbol
n1 = flag "FV1"

abbrev n2 : Symbol
n2 = flag "FV2"

abbrev n3 : Symbol
n3 = flag "FV3"

clauses : (passed (Cnf ∷ []) formulas formula_names).0 ≡ declare A ∷ declare B ∷ declare C ∷ declare D ∷ declare n1 ∷ declare n2 ∷ declare n3 ∷ assert 1 (either (negated (constant n1)) (constant A)) ∷ assert 1 (either (negated (constant n1)) (constant B)) ∷ assert 1 (clause (constant n1) (negated (constant A)) (negated (constant B))) ∷ assert 1 (clause (negated (constant n2)) (constant C) (constant D)) ∷ assert 1 (either (constant n2) (negated (constant C))) ∷ assert 1 (either (constant n2) (negated (constant D))) ∷ assert 1 (clause (negated (constant n3)) (negated (constant n1)) (constant n2)) ∷ assert 1 (clause (negated (constant n3)) (constant n1) (negated (constant n2))) ∷ assert 1 (constant n3) ∷ declare (flag "FV0") ∷ check ∷ []
unfolding operator_kind rank op_eq
clauses = refl

-- ---- three passes, one after the other

abbrev c0 : Symbol
c0 = named "FV0" byte

three_passes : (passed (Simplify ∷ Ite ∷ Cnf ∷ []) choice choice_names).0 ≡ passed_on source_text ∷ passed_on logic_text ∷ declare p ∷ declare v ∷ declare w ∷ declare c0 ∷ declare n1 ∷ assert 1 (clause (negated (constant n1)) (negated (constant p)) (equal (constant c0) (constant v))) ∷ assert 1 (constant n1) ∷ declare n2 ∷ assert 1 (clause (negated (constant n2)) (constant p) (equal (constant c0) (constant w))) ∷ assert 1 (constant n2) ∷ assert 1 (below (constant c0) three) ∷ check ∷ exit ∷ []
unfolding law literal_value op_value operator_kind rank op_eq is_ite_operator
three_passes = refl

-- ---- levels: a constant of a closed level is drawn anew

without_function_on_levels : (passed (Ackermann ∷ []) levels level_names).0 ≡ declare i0 ∷ assert 1 (equal (constant i0) (whole 2)) ∷ push 1 ∷ declare i1 ∷ assert 2 (implies (equal (whole 1) (whole 2)) (equal (constant i0) (constant i1))) ∷ assert 2 (equal (constant i1) (whole 3)) ∷ check ∷ pop 1 ∷ declare i2 ∷ assert 3 (implies (equal (whole 1) (whole 2)) (equal (constant i0) (constant i2))) ∷ assert 3 (equal (constant i2) (whole 4)) ∷ check ∷ []
unfolding rank op_eq
without_function_on_levels = refl

-- ---- declarations that outlive their level

abbrev n0 : Symbol
n0 = flag "FV0"

outliving_clauses : (passed (Cnf ∷ []) outliving outliving_names).0 ≡ globals true ∷ push 1 ∷ declare p ∷ declare n0 ∷ assert 1 (clause (constant n0) (negated (constant p)) (negated (constant p))) ∷ assert 1 (negated (constant n0)) ∷ pop 1 ∷ assert 2 (constant p) ∷ check ∷ []
unfolding operator_kind rank op_eq
outliving_clauses = refl

-- ---- no pass changes a literal of a check, and stored rules count as changing nothing

abbrev assuming : Commands
assuming = declare A ∷ declare B ∷ assert 1 (either (constant A) (constant B)) ∷ check_assuming (negated (constant A) ∷ constant B ∷ []) ∷ []

literals_stay : (passed (Cnf ∷ Rules ∷ Nnf ∷ []) assuming (supply ("a" ∷ "b" ∷ []) 0)).0 ≡ assuming
unfolding operator_kind rank op_eq
literals_stay = refl

no_passes : passed [] levels level_names ≡ (levels, level_names)
no_passes = refl

-- ---- the refusal

abbrev z : Symbol
z = flag "z"

abbrev k : Symbol
k = function "g" (bool ∷ []) bool

abbrev below_quantifier : Commands
below_quantifier =
    declare k
    ∷ assert 1 (call k (constant z ∷ []))
    ∷ assert 2 (for_all (z ∷ []) (equal (call k (constant z ∷ [])) (constant z)))
    ∷ assert 3 (for_all (z ∷ []) (call k (constant z ∷ [])))
    ∷ []

refused : refused_assertion (Nnf ∷ Ackermann ∷ []) below_quantifier (supply ("g" ∷ "z" ∷ []) 0) ≡ Some 2
unfolding operator_kind rank op_eq
refused = refl

not_refused : refused_assertion (Ackermann ∷ []) nested nested_names ≡ None
unfolding rank op_eq
not_refused = refl
