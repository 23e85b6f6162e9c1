use Rattle.std.proofs.Common.{◌≡◌, length, Some, IsSome}
use Rattle.smt_terms.specs.declared.ids.NodeId.{NodeId}
use Rattle.smt_terms.specs.Models.{Model}
use Rattle.smt_terms.specs.Val.{no_variables}
use Rattle.smt_values.specs.declared.value.Value.{Value}
use Rattle.term_table.specs.Formulas.{Formulas, tree, IsNode}
use Rattle.evaluation.specs.Evaluated.{IsValueOf}
use Rattle.evaluation.specs.KeptValues.{found_at, known_at, KeepsValues, AreFound, StayKept}
use Rattle.evaluation.proofs.evaluating.keep_all.Given as goal

abbrev pub invariant-loop-id : goal.invariant-loop-id
invariant-loop-id l = record {
  keeps : (t : Formulas) (m : Model) → KeepsValues t m l.fn.kept → AreFound t m no_variables l.fn.kept l.fn.found.entries → KeepsValues t m l.kept;
  left : (t : Formulas) (m : Model) → AreFound t m no_variables l.fn.kept l.fn.found.entries → (k : NodeId) (v : Value) → found_at l.found.entries k ≡ Some v → IsNode t k × IsValueOf m no_variables (tree t k) v;
  stay : StayKept l.fn.kept l.kept;
  all : (k : NodeId) → IsSome (known_at l.fn.kept l.fn.found.entries k) → IsSome (known_at l.kept l.found.entries k);
}

abbrev pub decreases-loop-id : goal.decreases-loop-id
decreases-loop-id l = length l.found.entries
