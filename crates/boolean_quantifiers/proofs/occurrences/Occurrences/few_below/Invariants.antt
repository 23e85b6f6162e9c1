use Rattle.std.proofs.Common.{◌≡◌, ℕ, ◌<◌, true, false, get_or}
use Rattle.smt_terms.specs.declared.ids.NodeId.{NodeId}
use Rattle.term_walk.specs.FreeLists.{has_node}
use Rattle.boolean_quantifiers.specs.Occurrences.{note_of, note_lacks}
use Rattle.boolean_quantifiers.proofs.occurrences.Occurrences.few_below.Given as goal

abbrev pub invariant-loop-kid : goal.invariant-loop-kid
invariant-loop-kid l = record {
  own : has_node l.self.candidates.keys l.fn.id ≡ true → has_node l.list.items l.fn.id ≡ true;
  kids : (i : ℕ) (d c : NodeId) → i < l.kid-index → has_node l.list.items c ≡ false → note_lacks (note_of l.self.notes.entries (get_or l.kid-items i d)) c ≡ true;
}
