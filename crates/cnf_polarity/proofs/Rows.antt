-- Worked rows of the clauses of a formula.
use Rattle.std.specs.Prelude.{◌≡◌, ℕ, true, false, List, [], ◌∷◌, refl}
use Rattle.smt_terms.specs.Sorts.{int, Symbol}
use Rattle.smt_terms.specs.Term.{Term, constant}
use Rattle.smt_terms.specs.Equal.{op_eq}
use Rattle.smt_terms.specs.Rank.{rank}
use Rattle.smt_terms.specs.Fresh.{Supply}
use Rattle.smt_terms.specs.Connectives.{operator_kind, truth_term, negated, both, either, all_of, any_of, implies, equal}
use Rattle.smt_terms.specs.Groups.{Named, Grouped}
use Rattle.smt_terms.proofs.Written.{named, flag, there_is, xor, distinct, ite, whole, supply}
use Rattle.cnf_polarity.specs.Cnf.{cnf}

abbrev a : Term
a = constant (flag "a")

abbrev b : Term
b = constant (flag "b")

abbrev c : Term
c = constant (flag "c")

abbrev d : Term
d = constant (flag "d")

abbrev n : Term
n = constant (named "n" int)

abbrev z : Symbol
z = flag "z"

abbrev f0 : Symbol
f0 = flag "FV0"

abbrev f1 : Symbol
f1 = flag "FV1"

abbrev f2 : Symbol
f2 = flag "FV2"

abbrev fv0 : Term
fv0 = constant (flag "FV0")

abbrev fv1 : Term
fv1 = constant (flag "FV1")

abbrev fv2 : Term
fv2 = constant (flag "FV2")

abbrev fv3 : Term
fv3 = constant (flag "FV3")

abbrev or3 : Term → Term → Term → Term
or3 s t u = any_of (s ∷ t ∷ u ∷ [])

abbrev names : Supply
names = supply ("a" ∷ "b" ∷ "c" ∷ "d" ∷ "n" ∷ []) 0

-- the symbols, the assertions, and the number from which on names are drawn afterwards
abbrev group : Named → List Term → ℕ → Grouped
group symbols asserts k = record { group = record { symbols = symbols; asserts = asserts }; names = supply ("a" ∷ "b" ∷ "c" ∷ "d" ∷ "n" ∷ []) k }

-- (= (and a b) (or c d)), where FV0 is taken
both_sides : cnf (equal (both a b) (either c d)) (supply ("a" ∷ "b" ∷ "c" ∷ "d" ∷ "FV0" ∷ []) 0) ≡ record { group = record { symbols = (flag "FV1", both a b) ∷ (flag "FV2", either c d) ∷ (flag "FV3", equal (both a b) (either c d)) ∷ []; asserts = either (negated fv1) a ∷ either (negated fv1) b ∷ or3 fv1 (negated a) (negated b) ∷ or3 (negated fv2) c d ∷ either fv2 (negated c) ∷ either fv2 (negated d) ∷ or3 (negated fv3) (negated fv1) fv2 ∷ or3 (negated fv3) fv1 (negated fv2) ∷ fv3 ∷ [] }; names = supply ("a" ∷ "b" ∷ "c" ∷ "d" ∷ "FV0" ∷ []) 4 }
unfolding operator_kind rank op_eq
both_sides = refl

-- a literal stays, and so does an `or` of literals
stays_literal : cnf (negated a) names ≡ group [] (negated a ∷ []) 0
unfolding operator_kind rank op_eq
stays_literal = refl

stays_clause : cnf (or3 a (negated b) (truth_term true)) names ≡ group [] (or3 a (negated b) (truth_term true) ∷ []) 0
unfolding operator_kind rank op_eq
stays_clause = refl

stays_quantified : cnf (either (negated (there_is (z ∷ []) (both a (constant z)))) b) names ≡ group [] (either (negated (there_is (z ∷ []) (both a (constant z)))) b ∷ []) 0
unfolding operator_kind rank op_eq
stays_quantified = refl

-- `(not true)` is no literal
not_true : cnf (negated (truth_term true)) names ≡ group [] (truth_term false ∷ []) 0
unfolding operator_kind rank op_eq
not_true = refl

or_not_true : cnf (either a (negated (truth_term true))) names ≡ group ((f0, either a (negated (truth_term true))) ∷ []) (or3 (negated fv0) a (truth_term false) ∷ fv0 ∷ []) 1
unfolding operator_kind rank op_eq
or_not_true = refl

-- each line of the table, positive and negative
and_positive : cnf (all_of (a ∷ negated b ∷ c ∷ [])) names ≡ group ((f0, all_of (a ∷ negated b ∷ c ∷ [])) ∷ []) (either (negated fv0) a ∷ either (negated fv0) (negated b) ∷ either (negated fv0) c ∷ fv0 ∷ []) 1
unfolding operator_kind rank op_eq
and_positive = refl

and_negative : cnf (negated (all_of (a ∷ negated b ∷ c ∷ []))) names ≡ group ((f0, all_of (a ∷ negated b ∷ c ∷ [])) ∷ []) (any_of (fv0 ∷ negated a ∷ b ∷ negated c ∷ []) ∷ negated fv0 ∷ []) 1
unfolding operator_kind rank op_eq
and_negative = refl

or_negative : cnf (negated (or3 a (negated b) c)) names ≡ group ((f0, or3 a (negated b) c) ∷ []) (either fv0 (negated a) ∷ either fv0 b ∷ either fv0 (negated c) ∷ negated fv0 ∷ []) 1
unfolding operator_kind rank op_eq
or_negative = refl

implies_positive : cnf (implies a b) names ≡ group ((f0, implies a b) ∷ []) (or3 (negated fv0) (negated a) b ∷ fv0 ∷ []) 1
unfolding operator_kind rank op_eq
implies_positive = refl

implies_negative : cnf (negated (implies a b)) names ≡ group ((f0, implies a b) ∷ []) (either fv0 a ∷ either fv0 (negated b) ∷ negated fv0 ∷ []) 1
unfolding operator_kind rank op_eq
implies_negative = refl

implies_not_positive : cnf (implies (negated a) b) names ≡ group ((f0, implies (negated a) b) ∷ []) (or3 (negated fv0) a b ∷ fv0 ∷ []) 1
unfolding operator_kind rank op_eq
implies_not_positive = refl

implies_not_negative : cnf (negated (implies (negated a) b)) names ≡ group ((f0, implies (negated a) b) ∷ []) (either fv0 (negated a) ∷ either fv0 (negated b) ∷ negated fv0 ∷ []) 1
unfolding operator_kind rank op_eq
implies_not_negative = refl

xor_positive : cnf (xor a b) names ≡ group ((f0, xor a b) ∷ []) (or3 (negated fv0) a b ∷ or3 (negated fv0) (negated a) (negated b) ∷ fv0 ∷ []) 1
unfolding operator_kind rank op_eq
xor_positive = refl

xor_negative : cnf (negated (xor a b)) names ≡ group ((f0, xor a b) ∷ []) (or3 fv0 (negated a) b ∷ or3 fv0 a (negated b) ∷ negated fv0 ∷ []) 1
unfolding operator_kind rank op_eq
xor_negative = refl

distinct_two_positive : cnf (distinct (a ∷ b ∷ [])) names ≡ group ((f0, distinct (a ∷ b ∷ [])) ∷ []) (or3 (negated fv0) a b ∷ or3 (negated fv0) (negated a) (negated b) ∷ fv0 ∷ []) 1
unfolding operator_kind rank op_eq
distinct_two_positive = refl

distinct_two_negative : cnf (negated (distinct (a ∷ b ∷ []))) names ≡ group ((f0, distinct (a ∷ b ∷ [])) ∷ []) (or3 fv0 (negated a) b ∷ or3 fv0 a (negated b) ∷ negated fv0 ∷ []) 1
unfolding operator_kind rank op_eq
distinct_two_negative = refl

equal_positive : cnf (equal a b) names ≡ group ((f0, equal a b) ∷ []) (or3 (negated fv0) (negated a) b ∷ or3 (negated fv0) a (negated b) ∷ fv0 ∷ []) 1
unfolding operator_kind rank op_eq
equal_positive = refl

equal_negative : cnf (negated (equal a b)) names ≡ group ((f0, equal a b) ∷ []) (or3 fv0 a b ∷ or3 fv0 (negated a) (negated b) ∷ negated fv0 ∷ []) 1
unfolding operator_kind rank op_eq
equal_negative = refl

ite_positive : cnf (ite c a b) names ≡ group ((f0, ite c a b) ∷ []) (or3 (negated fv0) (negated c) a ∷ or3 (negated fv0) c b ∷ fv0 ∷ []) 1
unfolding operator_kind rank op_eq
ite_positive = refl

ite_negative : cnf (negated (ite c a b)) names ≡ group ((f0, ite c a b) ∷ []) (or3 fv0 (negated c) (negated a) ∷ or3 fv0 c (negated b) ∷ negated fv0 ∷ []) 1
unfolding operator_kind rank op_eq
ite_negative = refl

distinct_more_positive : cnf (distinct (a ∷ b ∷ c ∷ [])) names ≡ group ((f0, distinct (a ∷ b ∷ c ∷ [])) ∷ []) (negated fv0 ∷ fv0 ∷ []) 1
unfolding operator_kind rank op_eq
distinct_more_positive = refl

distinct_more_negative : cnf (negated (distinct (a ∷ b ∷ c ∷ []))) names ≡ group ((f0, distinct (a ∷ b ∷ c ∷ [])) ∷ []) (negated fv0 ∷ []) 1
unfolding operator_kind rank op_eq
distinct_more_negative = refl

-- the left side of `=>` exchanges the polarity
left_of_implies : cnf (implies (both a b) c) names ≡ group ((f0, both a b) ∷ (f1, implies (both a b) c) ∷ []) (or3 fv0 (negated a) (negated b) ∷ or3 (negated fv1) (negated fv0) c ∷ fv1 ∷ []) 2
unfolding operator_kind rank op_eq
left_of_implies = refl

-- and the right side keeps it
right_of_implies : cnf (implies c (both a b)) names ≡ group ((f0, both a b) ∷ (f1, implies c (both a b)) ∷ []) (either (negated fv0) a ∷ either (negated fv0) b ∷ or3 (negated fv1) (negated c) fv0 ∷ fv1 ∷ []) 2
unfolding operator_kind rank op_eq
right_of_implies = refl

-- the condition of `ite` has both, its branches keep the polarity
condition : cnf (ite (both a b) (implies a c) d) names ≡ group ((f0, both a b) ∷ (f1, implies a c) ∷ (f2, ite (both a b) (implies a c) d) ∷ []) (either (negated fv0) a ∷ either (negated fv0) b ∷ or3 fv0 (negated a) (negated b) ∷ or3 (negated fv1) (negated a) c ∷ or3 (negated fv2) (negated fv0) fv1 ∷ or3 (negated fv2) fv0 d ∷ fv2 ∷ []) 3
unfolding operator_kind rank op_eq
condition = refl

-- one subformula in both polarities gets the clauses of both, and one name
both_polarities : cnf (both (either a b) (negated (either a b))) names ≡ group ((f0, either a b) ∷ (f1, both (either a b) (negated (either a b))) ∷ []) (or3 (negated fv0) a b ∷ either fv0 (negated a) ∷ either fv0 (negated b) ∷ either (negated fv1) fv0 ∷ either (negated fv1) (negated fv0) ∷ fv1 ∷ []) 2
unfolding operator_kind rank op_eq
both_polarities = refl

-- the operands of a `distinct` of more get names and clauses all the same
operands_of_distinct : cnf (distinct (both a b ∷ c ∷ d ∷ [])) names ≡ group ((f0, both a b) ∷ (f1, distinct (both a b ∷ c ∷ d ∷ [])) ∷ []) (either (negated fv0) a ∷ either (negated fv0) b ∷ or3 fv0 (negated a) (negated b) ∷ negated fv1 ∷ fv1 ∷ []) 2
unfolding operator_kind rank op_eq
operands_of_distinct = refl

-- an equation over Int is an atom, and what it holds stays
other_sort : cnf (both a (equal n (ite (both a b) n (whole 1)))) names ≡ group ((f0, both a (equal n (ite (both a b) n (whole 1)))) ∷ []) (either (negated fv0) a ∷ either (negated fv0) (equal n (ite (both a b) n (whole 1))) ∷ fv0 ∷ []) 1
unfolding operator_kind rank op_eq
other_sort = refl
