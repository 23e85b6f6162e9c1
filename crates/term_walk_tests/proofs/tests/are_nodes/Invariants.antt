use Rattle.std.proofs.Common.{ℕ, ◌<◌, get_or, length}
use Rattle.smt_terms.specs.declared.ids.NodeId.{NodeId}
use Rattle.term_walk_tests.proofs.tests.are_nodes.Given as goal

abbrev pub invariant-loop-id : goal.invariant-loop-id
invariant-loop-id l = (i : ℕ) (d : NodeId) → i < l.id-index → (get_or l.ids i d).0 < length l.table.trees
