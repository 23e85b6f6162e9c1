-- Applications below quantifiers, by marks on nodes.
use Rattle.std.specs.Prelude.{◌≡◌, Bool, true, not, List}
use Rattle.smt_terms.specs.declared.ids.NodeId.{NodeId}
use Rattle.smt_terms.specs.Groups.{has_term}
use Rattle.smt_terms.specs.Shapes.{no_application}
use Rattle.smt_terms.specs.Term.{Term}
use Rattle.term_table.specs.Formulas.{Formulas, tree, operands, IsNode}
use Rattle.term_walk.specs.FreeLists.{has_node}
use Rattle.ackermann.specs.Ackermann.{has_quantified_use}

-- whether an application stands anywhere in a term
abbrev pub has_application : Term → Bool
has_application t = not (no_application t)

-- what is marked passes the test, and what is done and passes it is marked
pub record AreMarked (t : Formulas) (test : Term → Bool) (marked done : List NodeId) : Type 0 where
  pub sound : (k : NodeId) → IsNode t k → has_node marked k ≡ true → test (tree t k) ≡ true
  pub complete : (k : NodeId) → IsNode t k → has_node done k ≡ true → test (tree t k) ≡ true → has_node marked k ≡ true

-- the operands of a node are done
abbrev pub AreOperandsDone : Formulas → List NodeId → NodeId → Type 0
AreOperandsDone t done id = (k : NodeId) → IsNode t k → has_term (operands (tree t id)) (tree t k) ≡ true → has_node done k ≡ true

pub record AreKnown (t : Formulas) (applied refused done : List NodeId) : Type 0 where
  pub with_applications : AreMarked t has_application applied done
  pub with_quantified_uses : AreMarked t has_quantified_use refused done
