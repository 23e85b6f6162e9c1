use Rattle.std.proofs.Common.{ℕ, ◌<◌, List, length, get_or, sym, subst, arith}
use Rattle.smt_terms.specs.declared.ids.NodeId.{NodeId}
use Rattle.smt_values.specs.declared.value.Value.{Value}
use Rattle.term_table.specs.Formulas.{tree}
use Rattle.evaluation.specs.Evaluated.{IsValueOf}
use Rattle.evaluation.proofs.FoundValues.{copies-more}
use Rattle.evaluation.proofs.results.values_of_nodes.Goals as goal

pub loop-id-preserved : goal.loop-id-preserved
loop-id-preserved c =
    let long = c.in_ok-push.ensures.len in
    let count = c.loop-id.invariant.count in
    record {
      count = omega (arith, long, count);
      each = λ t m e found. subst (λ (vs : List Value). (i : ℕ) (d : NodeId) (v : Value) → i < length vs → IsValueOf m e (tree t (get_or c.args.ids.now i d)) (get_or vs i v)) (sym c.in_ok-push.ensures.items)
          (copies-more t m e c.args.ids.now c.loop-id.values.items c.in_ok-value_of_node.field-0 c.loop-id.id-index (record { 0 = 0 }) count c.loop-id-test.true (c.loop-id.invariant.each t m e found) (c.in_ok-value_of_node.ensures t m e found));
    }

pub returns : goal.returns
returns c t m e found =
    let past = c.loop-id-test.false in
    let count = c.loop-id.invariant.count in
    let last = c.loop-id.auto.id-index-end in
    record { count = omega (arith, past, count, last); each = c.loop-id.invariant.each t m e found }
