-- Worked rows of and-inverter form.
use Rattle.std.specs.Prelude.{◌≡◌, true, false, [], ◌∷◌, refl}
use Rattle.smt_terms.specs.Sorts.{int, bit_vector, Symbol}
use Rattle.smt_terms.specs.Term.{Term, constant}
use Rattle.smt_terms.specs.Rank.{rank}
use Rattle.smt_terms.specs.Connectives.{operator_kind, truth_term, negated, both, either, all_of, any_of, implies, equal}
use Rattle.smt_terms.proofs.Written.{named, flag, for_all, there_is, xor, distinct, ite, whole}
use Rattle.normal_forms.specs.Aig.{aig}

abbrev a : Term
a = constant (flag "a")

abbrev b : Term
b = constant (flag "b")

abbrev c : Term
c = constant (flag "c")

abbrev x : Symbol
x = named "x" (bit_vector 8)

abbrev n : Term
n = constant (named "n" int)

-- the formula (or a b)
or_line : aig (either a b) ≡ negated (both (negated a) (negated b))
unfolding operator_kind rank
or_line = refl

-- each line of the table
constant_line : aig (truth_term true) ≡ truth_term true
unfolding operator_kind rank
constant_line = refl

atom_line : aig a ≡ a
unfolding operator_kind rank
atom_line = refl

not_line : aig (negated a) ≡ negated a
unfolding operator_kind rank
not_line = refl

not_not_line : aig (negated (negated a)) ≡ a
unfolding operator_kind rank
not_not_line = refl

and_line : aig (all_of (a ∷ negated (negated b) ∷ c ∷ [])) ≡ all_of (a ∷ b ∷ c ∷ [])
unfolding operator_kind rank
and_line = refl

or_of_not_line : aig (any_of (negated a ∷ b ∷ truth_term true ∷ [])) ≡ negated (all_of (a ∷ negated b ∷ negated (truth_term true) ∷ []))
unfolding operator_kind rank
or_of_not_line = refl

not_or_line : aig (negated (either a b)) ≡ both (negated a) (negated b)
unfolding operator_kind rank
not_or_line = refl

implies_line : aig (implies a b) ≡ negated (both a (negated b))
unfolding operator_kind rank
implies_line = refl

implies_not_line : aig (implies a (negated b)) ≡ negated (both a b)
unfolding operator_kind rank
implies_not_line = refl

equal_line : aig (equal a b) ≡ both (negated (both a (negated b))) (negated (both (negated a) b))
unfolding operator_kind rank
equal_line = refl

xor_line : aig (xor a b) ≡ negated (both (negated (both a (negated b))) (negated (both (negated a) b)))
unfolding operator_kind rank
xor_line = refl

ite_line : aig (ite c a b) ≡ both (negated (both c (negated a))) (negated (both (negated c) (negated b)))
unfolding operator_kind rank
ite_line = refl

distinct_two_line : aig (distinct (a ∷ b ∷ [])) ≡ negated (both (negated (both a (negated b))) (negated (both (negated a) b)))
unfolding operator_kind rank
distinct_two_line = refl

distinct_more_line : aig (distinct (a ∷ b ∷ c ∷ [])) ≡ truth_term false
unfolding operator_kind rank
distinct_more_line = refl

forall_line : aig (for_all (x ∷ []) (either a b)) ≡ for_all (x ∷ []) (negated (both (negated a) (negated b)))
unfolding operator_kind rank
forall_line = refl

exists_line : aig (negated (there_is (x ∷ []) (negated (negated a)))) ≡ negated (there_is (x ∷ []) a)
unfolding operator_kind rank
exists_line = refl

other_sort : aig (negated (equal n (ite (either a b) (whole 1) n))) ≡ negated (equal n (ite (either a b) (whole 1) n))
unfolding operator_kind rank
other_sort = refl
