use Rattle.std.proofs.Common.{◌≡◌, ℕ, ◌<◌, false, get_or}
use Rattle.smt_terms.specs.declared.ids.NodeId.{NodeId}
use Rattle.term_walk.specs.FreeLists.{has_node}
use Rattle.ackermann.proofs.quantified.has_any.Given as goal

abbrev pub invariant-loop-id : goal.invariant-loop-id
invariant-loop-id l = (i : ℕ) (d : NodeId) → i < l.id-index → has_node l.marked.keys (get_or l.ids i d) ≡ false
