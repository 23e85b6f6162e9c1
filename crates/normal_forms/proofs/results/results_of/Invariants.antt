use Rattle.std.proofs.Common.{◌≡◌, ℕ, ◌<◌, length, get_or, Some}
use Rattle.smt_terms.specs.declared.ids.NodeId.{NodeId}
use Rattle.term_walk.specs.Places.{result_at}
use Rattle.normal_forms.proofs.results.results_of.Given as goal

abbrev pub invariant-loop-kid : goal.invariant-loop-kid
invariant-loop-kid l = record {
  number : length l.results.items ≡ l.kid-index;
  each : (i : ℕ) (d : NodeId) → i < l.kid-index → result_at l.kept (get_or l.kids i d).0 ≡ Some (get_or l.results.items i d);
}
