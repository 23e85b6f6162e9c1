use Rattle.std.proofs.Common.{◌≡◌, ◌||◌, take}
use Rattle.smt_terms.specs.declared.ids.NodeId.{NodeId}
use Rattle.term_walk.specs.FreeLists.{has_node}
use Rattle.boolean_quantifiers.proofs.occurrences.join.Given as goal

abbrev pub invariant-loop-id : goal.invariant-loop-id
invariant-loop-id l = (c : NodeId) → has_node l.list.items c ≡ (has_node l.fn.list.items c || has_node (take l.id-index l.more) c)
