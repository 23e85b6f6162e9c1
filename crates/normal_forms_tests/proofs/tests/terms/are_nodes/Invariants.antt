use Rattle.std.proofs.Common.{ℕ, ◌<◌, get_or, length}
use Rattle.smt_terms.specs.declared.ids.NodeId.{NodeId}
use Rattle.normal_forms_tests.proofs.tests.terms.are_nodes.Given as goal

abbrev pub invariant-loop-kid : goal.invariant-loop-kid
invariant-loop-kid l = (i : ℕ) (d : NodeId) → i < l.kid-index → (get_or l.kids i d).0 < length l.table.trees
