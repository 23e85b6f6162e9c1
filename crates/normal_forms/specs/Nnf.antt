-- Negation normal form, over the connectives of the theory Core (SMT-LIB 2.6). Of each formula there is a positive form,
-- which has its value, and a negative form, which has the other one. Both go through connectives and quantifiers to the
-- atoms, and hold only `and`, `or`, and `not` over atoms.
use Rattle.std.specs.Prelude.{true, false, not, List, [], ◌∷◌}
use Rattle.smt_terms.specs.Term.{Quantifier, universal, existential, Term, apply, quantified, Terms, none, ◌⨾◌}
use Rattle.smt_terms.specs.Connectives.{Kind, truth_value, negation, conjunction, disjunction, exclusive, implication, equivalence, difference, conditional, atom, kind_of, truth_term, negated, all_of, any_of, both, either, nth}

-- the two forms of `(xor a b)`, of the positive and the negative forms of a and b
abbrev pub differ : List Term → List Term → Term
differ ps ns = either (both (nth ps 0) (nth ns 1)) (both (nth ns 0) (nth ps 1))

abbrev pub agree : List Term → List Term → Term
agree ps ns = both (either (nth ns 0) (nth ps 1)) (either (nth ps 0) (nth ns 1))

-- `distinct` of two as `xor`; of more truth values false
abbrev pub positive_distinct : List Term → List Term → Term
positive_distinct (p ∷ q ∷ r ∷ ps) ns = truth_term false
positive_distinct ps ns = differ ps ns

abbrev pub negative_distinct : List Term → List Term → Term
negative_distinct (p ∷ q ∷ r ∷ ps) ns = truth_term true
negative_distinct ps ns = agree ps ns

-- the positive form of a formula t of this kind, of its operands' positive forms and negative forms
abbrev pub positive : Kind → Term → List Term → List Term → Term
positive (truth_value b) t ps ns = t
positive atom t ps ns = t
positive negation t ps ns = nth ns 0
positive conjunction t ps ns = all_of ps
positive disjunction t ps ns = any_of ps
positive implication t ps ns = either (nth ns 0) (nth ps 1)
positive exclusive t ps ns = differ ps ns
positive equivalence t ps ns = agree ps ns
positive difference t ps ns = positive_distinct ps ns
positive conditional t ps ns = both (either (nth ns 0) (nth ps 1)) (either (nth ps 0) (nth ps 2))

-- and its negative form
abbrev pub negative : Kind → Term → List Term → List Term → Term
negative (truth_value b) t ps ns = truth_term (not b)
negative atom t ps ns = negated t
negative negation t ps ns = nth ps 0
negative conjunction t ps ns = any_of ns
negative disjunction t ps ns = all_of ns
negative implication t ps ns = both (nth ps 0) (nth ns 1)
negative exclusive t ps ns = agree ps ns
negative equivalence t ps ns = differ ps ns
negative difference t ps ns = negative_distinct ps ns
negative conditional t ps ns = both (either (nth ns 0) (nth ns 1)) (either (nth ps 0) (nth ns 2))

abbrev pub dual : Quantifier → Quantifier
dual universal = existential
dual existential = universal

abbrev mutual
  -- the positive form
  pub nnf : Term → Term
  nnf (apply h ts) = positive (kind_of h ts) (apply h ts) (nnf_each ts) (nnf_not_each ts)
  nnf (quantified q xs body) = quantified q xs (nnf body)

  -- the negative form
  pub nnf_not : Term → Term
  nnf_not (apply h ts) = negative (kind_of h ts) (apply h ts) (nnf_each ts) (nnf_not_each ts)
  nnf_not (quantified q xs body) = quantified (dual q) xs (nnf_not body)

  pub nnf_each : Terms → List Term
  nnf_each none = []
  nnf_each (t ⨾ ts) = nnf t ∷ nnf_each ts

  pub nnf_not_each : Terms → List Term
  nnf_not_each none = []
  nnf_not_each (t ⨾ ts) = nnf_not t ∷ nnf_not_each ts
