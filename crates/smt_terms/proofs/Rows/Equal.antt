-- Worked rows of the tests of equality.
use Rattle.std.specs.Prelude.{◌≡◌, true, false, [], ◌∷◌, codes, pos, refl}
use Rattle.smt_terms.specs.declared.op.Op.TheVariants.{Truth, Whole, And, Extract, ZeroExt, SignExt}
use Rattle.smt_terms.specs.Sorts.{Sort, bool, int, bit_vector, array, free_sort, Symbol}
use Rattle.smt_terms.specs.Term.{universal, existential, op, Term, apply, quantified, none, ◌⨾◌, constant}
use Rattle.smt_terms.specs.Equal.{name_eq, sort_eq, symbol_eq, op_eq, term_eq}

abbrev x : Sort → Symbol
x s = record { name = codes "x"; args = []; result = s }

abbrev nine : Term
nine = apply (op (Whole (pos 9))) none

same_name : name_eq (codes "ab") (codes "ab") ≡ true
same_name = refl

shorter_name : name_eq (codes "ab") (codes "abc") ≡ false
shorter_name = refl

same_sort : sort_eq (array int (free_sort (codes "S"))) (array int (free_sort (codes "S"))) ≡ true
same_sort = refl

other_width : sort_eq (bit_vector 8) (bit_vector 9) ≡ false
other_width = refl

other_element : sort_eq (array int bool) (array int int) ≡ false
other_element = refl

-- one name with two sorts is two symbols
other_rank : symbol_eq (x int) (x bool) ≡ false
other_rank = refl

same_operator : op_eq (Extract 7 0) (Extract 7 0) ≡ true
unfolding op_eq
same_operator = refl

other_parameter : op_eq (Extract 7 0) (Extract 7 1) ≡ false
unfolding op_eq
other_parameter = refl

other_operator : op_eq (ZeroExt 1) (SignExt 1) ≡ false
unfolding op_eq
other_operator = refl

other_constant : op_eq (Truth true) (Truth false) ≡ false
unfolding op_eq
other_constant = refl

same_term : term_eq (apply (op And) (constant (x bool) ⨾ constant (x bool) ⨾ none)) (apply (op And) (constant (x bool) ⨾ constant (x bool) ⨾ none)) ≡ true
unfolding op_eq
same_term = refl

fewer_operands : term_eq (apply (op And) (constant (x bool) ⨾ none)) (apply (op And) none) ≡ false
unfolding op_eq
fewer_operands = refl

-- bound names are part of the tree
other_bound_name : term_eq (quantified universal (record { name = codes "x"; sort = bool } ∷ []) nine) (quantified universal (record { name = codes "y"; sort = bool } ∷ []) nine) ≡ false
other_bound_name = refl

other_quantifier : term_eq (quantified universal (record { name = codes "x"; sort = bool } ∷ []) nine) (quantified existential (record { name = codes "x"; sort = bool } ∷ []) nine) ≡ false
other_quantifier = refl
