-- Nodes in an order in which each that is no quantifier stands behind its operands.
use Rattle.std.specs.Prelude.{◌≡◌, ℕ, ◌<◌, ◌≤◌, ◌⊎◌, Bool, true, false, List, length, get_or, take, All, IsSome}
use Rattle.smt_terms.specs.declared.ids.NodeId.{NodeId}
use Rattle.smt_terms.specs.Groups.{has_term}
use Rattle.smt_terms.specs.Models.{Model}
use Rattle.smt_terms.specs.Term.{Term, terms}
use Rattle.smt_terms.specs.Val.{Env, bits_bound}
use Rattle.smt_values.specs.declared.value.Value.{Value}
use Rattle.term_table.specs.Formulas.{Formulas, tree, trees_at, operands, IsNode, AreNodes}
use Rattle.term_walk.specs.declared.kept.Place.{Place}
use Rattle.term_walk.specs.FreeLists.{has_node}
use Rattle.term_walk.specs.Binders.{is_quantified}
use Rattle.term_walk.specs.Places.{result_at}
use Rattle.evaluation.specs.Evaluated.{breaks, any_breaks, most_bits}
use Rattle.evaluation.specs.declared.faults.ValueFault.{ValueFault}
use Rattle.evaluation.specs.declared.faults.ValueFault.TheVariants.{Beyond128, Memory}

-- each operand has a value that was kept, or stands before
pub record AreBehind (t : Formulas) (ks : List (Place Value)) (order : List NodeId) : Type 0 where
  pub nodes : AreNodes t order
  pub each : (i : ℕ) (d k : NodeId) → i < length order → is_quantified (tree t (get_or order i d)) ≡ false → IsNode t k → has_term (operands (tree t (get_or order i d))) (tree t k) ≡ true → IsSome (result_at ks k.0) ⊎ (has_node (take i order) k ≡ true)
  pub narrow : All (λ k. bits_bound (tree t k) ≤ most_bits) order

-- of what is below a node, up to the quantifiers
pub record IsOrder (t : Formulas) (ks : List (Place Value)) (root : NodeId) (order : List NodeId) : Type 0 where
  pub behind : AreBehind t ks order
  pub root_too : IsSome (result_at ks root.0) ⊎ (has_node order root ≡ true)
  pub below : All (λ k. bits_bound (tree t k) ≤ bits_bound (tree t root)) order
  pub breaks_too : (m : Model) (e : Env) (u : Term) → any_breaks m u (terms (trees_at t order)) e ≡ true → breaks m u (tree t root) e ≡ true

-- a fault at a term: a node has a number outside the range as its value
abbrev pub Breaks : Formulas → (Term → Bool) → ValueFault → Type 0
Breaks t test (Beyond128 k) = IsNode t k × (test (tree t k) ≡ true)
Breaks t test Memory = Unit {0}
