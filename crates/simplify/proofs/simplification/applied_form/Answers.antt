use Rattle.std.proofs.Common.{List, ap, sym, ◌∙◌, subst}
use Rattle.smt_terms.specs.declared.ids.NodeId.{NodeId}
use Rattle.term_table.specs.Formulas.{tree, trees_at}
use Rattle.simplify.specs.Reduced.{IsOver}
use Rattle.simplify.specs.Simplified.{reduced_over}
use Rattle.simplify.proofs.SimplifiedNodes.{over-operands, no-binder, simplified-over}
use Rattle.simplify.proofs.simplification.applied_form.Goals as goal

pub over_simplified-requires-clause-over : goal.over_simplified-requires-clause-over
over_simplified-requires-clause-over c =
    let t = c.args.table.now in
    let u = tree t c.args.id in
    let p = c.op-op.result in
    subst (λ (ks : List NodeId). IsOver t p ks) (sym c.deref.ensures.value)
    (over-operands t u p c.in_ok-operands.operands.items c.op-op.ensures.term c.requires.applied c.in_ok-operands.ensures.terms (c.op-op.ensures.table.sorted c.args.id.0 c.requires.node) c.in_ok-operands.ensures.nodes c.op-op.ensures.numbers)

pub over_simplified-requires-clause-plain : goal.over_simplified-requires-clause-plain
over_simplified-requires-clause-plain c =
    no-binder c.args.table.now (tree c.args.table.now c.args.id) c.op-op.result c.in_ok-operands.operands.items c.op-op.ensures.term c.requires.applied c.in_ok-operands.ensures.terms

pub returns-clause-form : goal.returns-clause-form
returns-clause-form c =
    let t = c.args.table.now in
    let p = c.op-op.result in
    record {
      node = c.in_ok-form.ensures.node;
      term =
          c.in_ok-form.ensures.term
          ∙ ap (λ ks. reduced_over t p (trees_at t ks)) c.deref.ensures.value
          ∙ simplified-over t (tree t c.args.id) p c.in_ok-operands.operands.items c.op-op.ensures.term c.requires.applied c.in_ok-operands.ensures.terms;
    }
