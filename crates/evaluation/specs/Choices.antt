-- The choices of values of variables, and the body that is valued at each.
use Rattle.std.specs.Prelude.{◌≡◌, ℕ, ◌+◌, Bool, true, List, [], ◌∷◌, map, Some}
use Rattle.smt_terms.specs.declared.ids.NodeId.{NodeId}
use Rattle.smt_terms.specs.Rank.{sort_of, is_quantifiable}
use Rattle.smt_terms.specs.Sorts.{bool, Variable}
use Rattle.smt_terms.specs.Term.{Quantifier, universal, existential, variable}
use Rattle.smt_terms.specs.Val.{Env, assign, runs, sort_bits, bits_bound, bound_bits}
use Rattle.smt_terms.specs.Values.{Sizes}
use Rattle.smt_values.specs.Numbered.{numbered}
use Rattle.term_table.specs.Formulas.{Formulas, tree, variable_of, IsNode}
use Rattle.evaluation.specs.Orders.{IsOrder}
use Rattle.evaluation.specs.declared.quantifiers.Quantified.{Quantified}

abbrev pub quantifier_of : Bool → Quantifier
quantifier_of true = universal
quantifier_of _ = existential

abbrev pub variables_at : Formulas → List NodeId → List Variable
variables_at t ks = map (λ k. variable_of (tree t k)) ks

-- the constant of a variable that a quantifier may bind
pub record IsVariable (t : Formulas) (k : NodeId) : Type 0 where
  pub node : IsNode t k
  pub constant_is : tree t k ≡ variable (variable_of (tree t k))
  pub bindable : is_quantifiable (variable_of (tree t k)).sort ≡ true

-- the body of a quantifier, with its order
pub record IsBody (t : Formulas) (q : Quantified) : Type 0 where
  pub node : IsNode t q.body
  pub sort : sort_of (tree t q.body) ≡ Some bool
  pub order : IsOrder t [] q.body q.order.items

-- how many bits these variables and the quantifiers of the body bind
abbrev pub bits_below : Formulas → List NodeId → Quantified → ℕ
bits_below t ks q = bound_bits (variables_at t ks) + bits_bound (tree t q.body)

-- the bits of the first variable
abbrev pub first_bits : Formulas → List NodeId → ℕ
first_bits t [] = 0
first_bits t (k ∷ ks) = sort_bits (variable_of (tree t k)).sort

-- the values of the variables behind the first, which has the value of this number
abbrev pub runs_with : Quantifier → List Variable → Sizes → (Env → Bool) → Env → ℕ → Bool
runs_with q [] sizes test e n = test e
runs_with q (x ∷ xs) sizes test e n = runs q xs sizes test (assign x (numbered x.sort n) e)
