-- And-inverter form, over the connectives of the theory Core (SMT-LIB 2.6): through connectives and quantifiers to the atoms,
-- with only `and` and `not`, and no `not` over a `not`. `opposite` takes a `not` away, or else adds one.
use Rattle.std.specs.Prelude.{false, List, [], ◌∷◌, map}
use Rattle.smt_terms.specs.Term.{Term, apply, quantified, Terms, none, ◌⨾◌}
use Rattle.smt_terms.specs.Connectives.{Kind, truth_value, negation, conjunction, disjunction, exclusive, implication, equivalence, difference, conditional, atom, kind_of, truth_term, all_of, both, opposite, nth}

-- `(= a b)`: not a without b, and not b without a
abbrev pub same_sides : List Term → Term
same_sides rs = both (opposite (both (nth rs 0) (opposite (nth rs 1)))) (opposite (both (opposite (nth rs 0)) (nth rs 1)))

-- `distinct` of two as `xor`; of more truth values false
abbrev pub aig_distinct : List Term → Term
aig_distinct (r ∷ s ∷ t ∷ rs) = truth_term false
aig_distinct rs = opposite (same_sides rs)

-- the form of a formula t of this kind, of its operands' forms
abbrev pub inverted : Kind → Term → List Term → Term
inverted (truth_value b) t rs = t
inverted atom t rs = t
inverted negation t rs = opposite (nth rs 0)
inverted conjunction t rs = all_of rs
inverted disjunction t rs = opposite (all_of (map opposite rs))
inverted implication t rs = opposite (both (nth rs 0) (opposite (nth rs 1)))
inverted exclusive t rs = opposite (same_sides rs)
inverted equivalence t rs = same_sides rs
inverted difference t rs = aig_distinct rs
inverted conditional t rs = both (opposite (both (nth rs 0) (opposite (nth rs 1)))) (opposite (both (opposite (nth rs 0)) (opposite (nth rs 2))))

abbrev mutual
  pub aig : Term → Term
  aig (apply h ts) = inverted (kind_of h ts) (apply h ts) (aig_each ts)
  aig (quantified q xs body) = quantified q xs (aig body)

  pub aig_each : Terms → List Term
  aig_each none = []
  aig_each (t ⨾ ts) = aig t ∷ aig_each ts
