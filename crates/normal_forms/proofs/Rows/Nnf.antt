-- Worked rows of negation normal form.
use Rattle.std.specs.Prelude.{◌≡◌, true, false, [], ◌∷◌, refl}
use Rattle.smt_terms.specs.Sorts.{int, bit_vector, Symbol}
use Rattle.smt_terms.specs.Term.{Term, constant}
use Rattle.smt_terms.specs.Rank.{rank}
use Rattle.smt_terms.specs.Connectives.{operator_kind, truth_term, negated, both, either, all_of, any_of, implies, equal}
use Rattle.smt_terms.proofs.Written.{named, flag, for_all, there_is, xor, distinct, ite, whole}
use Rattle.normal_forms.specs.Nnf.{nnf, nnf_not}

abbrev a : Term
a = constant (flag "a")

abbrev b : Term
b = constant (flag "b")

abbrev c : Term
c = constant (flag "c")

abbrev x : Symbol
x = named "x" (bit_vector 8)

abbrev n : Term
n = constant (named "n" int)

-- the formula (not (and a (or b (not c))))
whole_formula : nnf (negated (both a (either b (negated c)))) ≡ either (negated a) (both (negated b) c)
unfolding operator_kind rank
whole_formula = refl

-- each line of the table, positive and negative
true_positive : nnf (truth_term true) ≡ truth_term true
unfolding operator_kind rank
true_positive = refl

true_negative : nnf_not (truth_term true) ≡ truth_term false
unfolding operator_kind rank
true_negative = refl

false_positive : nnf (truth_term false) ≡ truth_term false
unfolding operator_kind rank
false_positive = refl

false_negative : nnf_not (truth_term false) ≡ truth_term true
unfolding operator_kind rank
false_negative = refl

atom_positive : nnf a ≡ a
unfolding operator_kind rank
atom_positive = refl

atom_negative : nnf_not a ≡ negated a
unfolding operator_kind rank
atom_negative = refl

not_positive : nnf (negated a) ≡ negated a
unfolding operator_kind rank
not_positive = refl

not_negative : nnf_not (negated a) ≡ a
unfolding operator_kind rank
not_negative = refl

not_not_positive : nnf (negated (negated a)) ≡ a
unfolding operator_kind rank
not_not_positive = refl

and_positive : nnf (all_of (a ∷ negated (negated b) ∷ c ∷ [])) ≡ all_of (a ∷ b ∷ c ∷ [])
unfolding operator_kind rank
and_positive = refl

and_negative : nnf_not (all_of (a ∷ negated b ∷ c ∷ [])) ≡ any_of (negated a ∷ b ∷ negated c ∷ [])
unfolding operator_kind rank
and_negative = refl

or_positive : nnf (any_of (a ∷ negated (negated b) ∷ c ∷ [])) ≡ any_of (a ∷ b ∷ c ∷ [])
unfolding operator_kind rank
or_positive = refl

or_negative : nnf_not (any_of (a ∷ negated b ∷ c ∷ [])) ≡ all_of (negated a ∷ b ∷ negated c ∷ [])
unfolding operator_kind rank
or_negative = refl

implies_positive : nnf (implies a b) ≡ either (negated a) b
unfolding operator_kind rank
implies_positive = refl

implies_negative : nnf_not (implies a b) ≡ both a (negated b)
unfolding operator_kind rank
implies_negative = refl

xor_positive : nnf (xor a b) ≡ either (both a (negated b)) (both (negated a) b)
unfolding operator_kind rank
xor_positive = refl

xor_negative : nnf_not (xor a b) ≡ both (either (negated a) b) (either a (negated b))
unfolding operator_kind rank
xor_negative = refl

equal_positive : nnf (equal a b) ≡ both (either (negated a) b) (either a (negated b))
unfolding operator_kind rank
equal_positive = refl

equal_negative : nnf_not (equal a b) ≡ either (both a (negated b)) (both (negated a) b)
unfolding operator_kind rank
equal_negative = refl

ite_positive : nnf (ite c a b) ≡ both (either (negated c) a) (either c b)
unfolding operator_kind rank
ite_positive = refl

ite_negative : nnf_not (ite c a b) ≡ both (either (negated c) (negated a)) (either c (negated b))
unfolding operator_kind rank
ite_negative = refl

distinct_two_positive : nnf (distinct (a ∷ b ∷ [])) ≡ either (both a (negated b)) (both (negated a) b)
unfolding operator_kind rank
distinct_two_positive = refl

distinct_two_negative : nnf_not (distinct (a ∷ b ∷ [])) ≡ both (either (negated a) b) (either a (negated b))
unfolding operator_kind rank
distinct_two_negative = refl

distinct_more_positive : nnf (distinct (a ∷ b ∷ c ∷ [])) ≡ truth_term false
unfolding operator_kind rank
distinct_more_positive = refl

distinct_more_negative : nnf_not (distinct (a ∷ b ∷ c ∷ [])) ≡ truth_term true
unfolding operator_kind rank
distinct_more_negative = refl

forall_positive : nnf (for_all (x ∷ []) (implies a b)) ≡ for_all (x ∷ []) (either (negated a) b)
unfolding operator_kind rank
forall_positive = refl

forall_negative : nnf_not (for_all (x ∷ []) (implies a b)) ≡ there_is (x ∷ []) (both a (negated b))
unfolding operator_kind rank
forall_negative = refl

exists_positive : nnf (there_is (x ∷ []) (implies a b)) ≡ there_is (x ∷ []) (either (negated a) b)
unfolding operator_kind rank
exists_positive = refl

exists_negative : nnf_not (there_is (x ∷ []) (implies a b)) ≡ for_all (x ∷ []) (both a (negated b))
unfolding operator_kind rank
exists_negative = refl

-- an equation and an `ite` over Int are no connectives, and what an atom holds stays
other_sort : nnf (negated (equal n (ite (negated (negated a)) (whole 1) n))) ≡ negated (equal n (ite (negated (negated a)) (whole 1) n))
unfolding operator_kind rank
other_sort = refl

other_distinct : nnf (negated (distinct (n ∷ whole 1 ∷ []))) ≡ negated (distinct (n ∷ whole 1 ∷ []))
unfolding operator_kind rank
other_distinct = refl
