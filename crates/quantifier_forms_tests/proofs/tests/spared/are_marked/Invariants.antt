use Rattle.std.proofs.Common.{◌≡◌, ℕ, ◌<◌, false, true, get_or}
use Rattle.smt_terms.specs.declared.ids.NodeId.{NodeId}
use Rattle.quantifier_forms_tests.proofs.tests.spared.are_marked.Given as goal

abbrev pub invariant-loop-kid : goal.invariant-loop-kid
invariant-loop-kid l = (i : ℕ) (d : NodeId) → i < l.kid-index → get_or l.marks (get_or l.kids i d).0 false ≡ true
