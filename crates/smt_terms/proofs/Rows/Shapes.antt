-- Worked rows of the shapes, each both ways.
use Rattle.std.specs.Prelude.{◌≡◌, true, false, [], ◌∷◌, refl}
use Rattle.smt_terms.specs.Sorts.{bool, int, bit_vector, Symbol}
use Rattle.smt_terms.specs.Term.{Term, constant}
use Rattle.smt_terms.specs.Connectives.{operator_kind, truth_term, negated, both, either, all_of, any_of, equal}
use Rattle.smt_terms.specs.Rank.{rank}
use Rattle.smt_terms.specs.Shapes.{is_nnf, is_aig, is_prenex, is_literal, is_clause, no_term_ite, no_application, no_bool_quantifier, is_clear, is_ite_operator}
use Rattle.smt_terms.proofs.Written.{named, flag, function, call, for_all, there_is, xor, distinct, ite, whole}

abbrev a : Term
a = constant (flag "a")

abbrev b : Term
b = constant (flag "b")

abbrev c : Term
c = constant (flag "c")

abbrev n : Term
n = constant (named "n" int)

abbrev v : Symbol
v = named "v" (bit_vector 8)

abbrev some_a : Term
some_a = there_is (flag "a" ∷ []) a

-- an equation over Int is an atom, and so is what it holds
abbrev deep : Term
deep = equal n (ite (xor a b) (whole 1) n)

-- ---- negation normal form

nnf_yes : is_nnf (for_all (v ∷ []) (either (negated a) (all_of (negated deep ∷ b ∷ truth_term true ∷ [])))) ≡ true
unfolding operator_kind rank
nnf_yes = refl

nnf_not_over_and : is_nnf (negated (both a b)) ≡ false
unfolding operator_kind rank
nnf_not_over_and = refl

nnf_not_over_quantifier : is_nnf (negated some_a) ≡ false
unfolding operator_kind rank
nnf_not_over_quantifier = refl

nnf_not_over_constant : is_nnf (negated (truth_term true)) ≡ false
unfolding operator_kind rank
nnf_not_over_constant = refl

nnf_equivalence : is_nnf (for_all (v ∷ []) (equal a b)) ≡ false
unfolding operator_kind rank
nnf_equivalence = refl

nnf_conditional : is_nnf (both a (ite a b c)) ≡ false
unfolding operator_kind rank
nnf_conditional = refl

nnf_difference : is_nnf (distinct (a ∷ b ∷ [])) ≡ false
unfolding operator_kind rank
nnf_difference = refl

-- over another sort it is an atom
nnf_distinct_atom : is_nnf (distinct (n ∷ whole 0 ∷ [])) ≡ true
unfolding operator_kind rank
nnf_distinct_atom = refl

-- ---- and-inverter form

aig_yes : is_aig (negated (both (negated a) (there_is (v ∷ []) (negated (both b deep))))) ≡ true
unfolding operator_kind rank
aig_yes = refl

aig_twice_not : is_aig (both a (negated (negated b))) ≡ false
unfolding operator_kind rank
aig_twice_not = refl

aig_or : is_aig (negated (either a b)) ≡ false
unfolding operator_kind rank
aig_or = refl

-- ---- prenex form

prenex_yes : is_prenex (there_is (flag "x" ∷ []) (for_all (v ∷ []) (both (negated some_a) (either a b)))) ≡ true
unfolding operator_kind rank
prenex_yes = refl

prenex_reached : is_prenex (there_is (flag "x" ∷ []) (both b (either a some_a))) ≡ false
unfolding operator_kind rank
prenex_reached = refl

-- ---- literals and clauses

clause_of_literals : is_clause (any_of (a ∷ negated b ∷ truth_term false ∷ deep ∷ negated some_a ∷ [])) ≡ true
unfolding operator_kind rank
clause_of_literals = refl

clause_of_one : is_clause (negated some_a) ≡ true
unfolding operator_kind rank
clause_of_one = refl

not_true_is_no_literal : is_literal (negated (truth_term true)) ≡ false
unfolding operator_kind rank
not_true_is_no_literal = refl

clause_with_and : is_clause (either a (both b c)) ≡ false
unfolding operator_kind rank
clause_with_and = refl

clause_equivalence : is_clause (equal a b) ≡ false
unfolding operator_kind rank
clause_equivalence = refl

-- ---- no `ite` over terms

ite_over_truth_values : no_term_ite (both (ite a b c) (for_all (v ∷ []) deep)) ≡ true
unfolding operator_kind rank is_ite_operator
ite_over_truth_values = refl

ite_inside_an_atom : no_term_ite (negated deep) ≡ false
unfolding operator_kind rank is_ite_operator
ite_inside_an_atom = refl

-- ---- no application

application_free : no_application (both a (for_all (flag "b" ∷ []) (equal n (whole 0)))) ≡ true
application_free = refl

application_below_a_quantifier : no_application (both a (for_all (flag "b" ∷ []) (equal (call (function "f" (bool ∷ []) int) (b ∷ [])) (whole 0)))) ≡ false
application_below_a_quantifier = refl

-- ---- no quantified Bool

quantified_bits : no_bool_quantifier (negated (there_is (v ∷ []) a)) ≡ true
quantified_bits = refl

quantified_truth_value : no_bool_quantifier (negated (there_is (v ∷ []) (for_all (v ∷ flag "b" ∷ []) b))) ≡ false
quantified_truth_value = refl

-- ---- clear names

clear_yes : is_clear (both a (there_is (flag "b" ∷ []) (xor a b))) ≡ true
clear_yes = refl

-- the inner quantifier binds the name again; what stands below it is its own variable
clear_shadowed : is_clear (there_is (flag "b" ∷ []) (both b (for_all (flag "b" ∷ []) b))) ≡ true
clear_shadowed = refl

-- below a quantifier over the bit vector a stands the truth value a
clear_other_sort : is_clear (there_is (named "a" (bit_vector 8) ∷ []) a) ≡ false
clear_other_sort = refl

clear_outer_variable : is_clear (there_is (flag "a" ∷ []) (there_is (named "a" (bit_vector 8) ∷ []) a)) ≡ false
clear_outer_variable = refl

clear_two_of_one_name : is_clear (both a (equal (constant (named "a" int)) (whole 0))) ≡ false
clear_two_of_one_name = refl

-- free above, bound below
clear_free_and_bound : is_clear (both a (there_is (flag "a" ∷ []) a)) ≡ true
clear_free_and_bound = refl
