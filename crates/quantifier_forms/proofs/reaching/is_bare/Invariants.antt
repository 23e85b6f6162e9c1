use Rattle.std.proofs.Common.{◌≡◌, ℕ, ◌<◌, true, get_or}
use Rattle.smt_terms.specs.declared.ids.NodeId.{NodeId}
use Rattle.term_walk.specs.FreeLists.{has_node}
use Rattle.quantifier_forms.proofs.reaching.is_bare.Given as goal

abbrev pub invariant-loop-kid : goal.invariant-loop-kid
invariant-loop-kid l = (i : ℕ) (d : NodeId) → i < l.kid-index → has_node l.bare.keys (get_or l.kid-items i d) ≡ true
