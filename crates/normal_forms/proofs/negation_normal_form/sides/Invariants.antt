use Rattle.std.proofs.Common.{◌≡◌, ℕ, ◌<◌, length, get_or, Some, option_map}
use Rattle.smt_terms.specs.declared.ids.NodeId.{NodeId}
use Rattle.term_walk.specs.Places.{result_at}
use Rattle.normal_forms.specs.FormNodes.{positive_of, negative_of}
use Rattle.normal_forms.proofs.negation_normal_form.sides.Given as goal

abbrev pub invariant-loop-kid : goal.invariant-loop-kid
invariant-loop-kid l = record {
  positives : length l.positives.items ≡ l.kid-index;
  negatives : length l.negatives.items ≡ l.kid-index;
  yes : (i : ℕ) (d : NodeId) → i < l.kid-index → option_map positive_of (result_at l.kept (get_or l.kids i d).0) ≡ Some (get_or l.positives.items i d);
  no : (i : ℕ) (d : NodeId) → i < l.kid-index → option_map negative_of (result_at l.kept (get_or l.kids i d).0) ≡ Some (get_or l.negatives.items i d);
}
