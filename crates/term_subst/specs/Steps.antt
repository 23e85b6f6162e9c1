-- What a substitution still has to do, as terms, the next first, and what comes of it.
use Rattle.std.specs.Prelude.{◌≡◌, ℕ, ◌+◌, List, [], ◌∷◌, ◌++◌, Some, None}
use Rattle.smt_terms.specs.Sorts.{Variable}
use Rattle.smt_terms.specs.Term.{Term, apply, quantified, Terms, none, ◌⨾◌, list}
use Rattle.smt_terms.specs.Subst.{Map, Choices, chosen_for, rebuilt, subst_from}
use Rattle.term_subst.specs.Done.{done, dones}

-- a quantified term, under a map cut down to its free symbols, whose body's result is to come: its variables after
-- renaming, and the map outside
pub record Opening : Type 0 where
  pub term : Term
  pub cut : Map
  pub renamed : List Variable
  pub outer : Map

-- find the result of a term; make it of those of its operands; make it of that of its body
pub data Step : Type 0 where
  visit : Term → Step
  build : Term → Step
  close : Opening → Step

abbrev pub operands_of : Term → Terms
operands_of (apply _ ts) = ts
operands_of (quantified _ _ _) = none

abbrev pub body_of : Term → Term
body_of (apply h ts) = apply h ts
body_of (quantified _ _ t) = t

abbrev pub bound_in : Term → List Variable
bound_in (apply _ _) = []
bound_in (quantified _ xs _) = xs

abbrev pub built : Map → Term → Terms → Term
built m (apply h _) us = rebuilt m h us
built m (quantified q xs t) us = quantified q xs t

-- the quantifier of a term over other variables and another body
abbrev pub requantified : Term → List Variable → Term → Term
requantified (quantified q _ _) ys b = quantified q ys b
requantified (apply h ts) ys b = apply h ts

abbrev pub result_of : Opening → Term → Term
result_of o b = requantified o.term o.renamed b

abbrev pub with_result : Opening → Term → Choices → Choices
with_result o b s = record { names = s.names; chosen = record { cut = o.cut; term = o.term; result = result_of o b } ∷ s.chosen }

-- what is known at the end: the values, and what is kept
pub record End : Type 0 where
  pub values : List Term
  pub choices : Choices

-- these steps, from these values and with this kept, lead to this end. A step that makes a result finds those that it is
-- made of last among the values
abbrev pub Leads : Map → List Step → List Term → Choices → End → Type 0
Leads m [] vs s end = (vs ≡ end.values) × (s ≡ end.choices)
Leads m (visit t ∷ steps) vs s end = Leads m steps (vs ++ (subst_from m t s).0 ∷ []) (subst_from m t s).1 end
Leads m (build t ∷ steps) vs s end =
    (before : List Term) × (us : Terms) × (vs ≡ before ++ list us) × (dones m s.chosen (operands_of t) ≡ Some us)
    × Leads m steps (before ++ built m t us ∷ []) s end
Leads m (close o ∷ steps) vs s end =
    (before : List Term) × (b : Term) × (vs ≡ before ++ b ∷ []) × (done m s.chosen (body_of o.term) ≡ Some b)
    × (chosen_for s.chosen o.cut o.term ≡ None) × Leads o.outer steps (before ++ result_of o b ∷ []) (with_result o b s) end

-- ---- how much is left to do

abbrev mutual
  pub weight : Term → ℕ
  weight (apply h ts) = 2 + weights ts
  weight (quantified q xs body) = 2 + weight body

  pub weights : Terms → ℕ
  weights none = 0
  weights (t ⨾ ts) = weight t + weights ts

abbrev pub load : List Step → ℕ
load [] = 0
load (visit t ∷ steps) = weight t + load steps
load (build t ∷ steps) = 1 + load steps
load (close o ∷ steps) = 1 + load steps
