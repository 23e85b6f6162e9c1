use Rattle.std.proofs.Common.{◌≡◌, ℕ, ◌<◌, true, get_or}
use Rattle.smt_terms.specs.declared.ids.NodeId.{NodeId}
use Rattle.boolean_quantifiers.specs.Occurrences.{is_plain}
use Rattle.boolean_quantifiers.proofs.occurrences.Occurrences.binds_below.Given as goal

abbrev pub invariant-loop-kid : goal.invariant-loop-kid
invariant-loop-kid l = (i : ℕ) (d : NodeId) → i < l.kid-index → is_plain l.self.notes.entries (get_or l.kid-items i d) ≡ true
