use Rattle.std.proofs.Common.{ℕ, ◌<◌, ◌≤◌, get_or}
use Rattle.smt_terms.specs.declared.ids.NodeId.{NodeId}
use Rattle.term_walk.proofs.count.number_above.Given as goal

abbrev pub invariant-loop-id : goal.invariant-loop-id
invariant-loop-id l = record {
  above : (i : ℕ) (d : NodeId) → i < l.id-index → (get_or l.ids i d).0 < l.above;
  within : l.above ≤ l.most;
}
