use Rattle.std.proofs.Common.{◌≡◌, ℕ, ◌<◌, length, get_or}
use Rattle.smt_terms.specs.declared.ids.NodeId.{NodeId}
use Rattle.smt_terms.specs.Models.{Model}
use Rattle.smt_terms.specs.Val.{Env}
use Rattle.smt_values.specs.declared.value.Value.{Value}
use Rattle.term_table.specs.Formulas.{Formulas, tree}
use Rattle.evaluation.specs.Evaluated.{IsValueOf}
use Rattle.evaluation.specs.KeptValues.{AreFound}
use Rattle.evaluation.proofs.results.values_of_nodes.Given as goal

abbrev pub invariant-loop-id : goal.invariant-loop-id
invariant-loop-id l = record {
  count : length l.values.items ≡ l.id-index;
  each : (t : Formulas) (m : Model) (e : Env) → AreFound t m e l.kept l.found.entries → (i : ℕ) (d : NodeId) (v : Value) → i < length l.values.items → IsValueOf m e (tree t (get_or l.ids i d)) (get_or l.values.items i v);
}
