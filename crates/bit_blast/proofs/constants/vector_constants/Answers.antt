use Rattle.std.proofs.Common.{List, sym, ap, ◌∙◌, subst}
use Rattle.std.proofs.lemmas.List.Elements.{All-push}
use Rattle.smt_terms.specs.declared.ids.NodeId.{NodeId}
use Rattle.term_table.specs.Formulas.{IsNode, AreNodes}
use Rattle.bit_blast.proofs.VectorNodes.{vector-more, other-more}
use Rattle.bit_blast.proofs.constants.vector_constants.Goals as goal
use Rattle.bit_blast.proofs.constants.vector_constants.Goals.{then-is_vector+in_ok-push, else-is_vector}

pub loop-id-preserved : goal.loop-id-preserved
loop-id-preserved c =
    let t = c.args.table.now in
    let ks = c.args.order.now in
    let n = c.loop-id.id-index in
    let vs = c.loop-id.vectors.items in
    let new = c.if-is_vector.vectors.items in
    elim c.if-is_vector.branch [
      | then-is_vector+in_ok-push w ↦
          let put = ap (λ v. v.items) w.vectors-is ∙ w.in_ok-push.ensures.items in
          record {
            nodes = subst (λ (js : List NodeId). AreNodes t js) (sym put) (All-push (IsNode t) vs _ c.loop-id.invariant.nodes (c.requires n (record { 0 = 0 }) c.loop-id-test.true));
            terms = vector-more t ks vs new n (record { 0 = 0 }) c.loop-id-test.true c.loop-id.invariant.terms (sym c.is_vector.ensures ∙ w.if-is_vector.true) put;
          }
      | else-is_vector w ↦
          let same = ap (λ v. v.items) w.vectors-is in
          record {
            nodes = subst (λ (js : List NodeId). AreNodes t js) (sym same) c.loop-id.invariant.nodes;
            terms = other-more t ks vs new n (record { 0 = 0 }) c.loop-id-test.true c.loop-id.invariant.terms (sym c.is_vector.ensures ∙ w.if-is_vector.false) same;
          }
    ]
