-- Nodes in an order in which each stands behind its operands.
use Rattle.std.specs.Prelude.{◌≡◌, ℕ, ◌<◌, ◌⊎◌, Bool, true, List, length, get_or, take}
use Rattle.smt_terms.specs.declared.ids.NodeId.{NodeId}
use Rattle.smt_terms.specs.Groups.{has_term}
use Rattle.term_table.specs.Formulas.{Formulas, tree, operands, IsNode, AreNodes}
use Rattle.term_walk.specs.FreeLists.{has_node}

-- of the root and of all that is reached from it, but for the nodes that pass the test
pub record IsOrdered (t : Formulas) (known : NodeId → Bool) (root : NodeId) (ks : List NodeId) : Type 0 where
  pub nodes : AreNodes t ks
  pub each : (i : ℕ) (d k : NodeId) → i < length ks → IsNode t k → has_term (operands (tree t (get_or ks i d))) (tree t k) ≡ true → (known k ≡ true) ⊎ (has_node (take i ks) k ≡ true)
  pub root_too : (known root ≡ true) ⊎ (has_node ks root ≡ true)
