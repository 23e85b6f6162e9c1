use Rattle.std.proofs.Common.{◌≡◌, not, ◌&&◌, take}
use Rattle.smt_terms.specs.declared.ids.NodeId.{NodeId}
use Rattle.term_table.specs.Formulas.{tree, IsNode}
use Rattle.term_walk.specs.FreeLists.{has_node}
use Rattle.bit_blast.specs.Blasted.{is_bits}
use Rattle.bit_blast.proofs.checking.all_faults.Given as goal

abbrev pub invariant-loop-id : goal.invariant-loop-id
invariant-loop-id l = (k : NodeId) → IsNode l.table k → has_node l.faults.keys k ≡ (has_node (take l.id-index l.order) k && not (is_bits (tree l.table k)))
