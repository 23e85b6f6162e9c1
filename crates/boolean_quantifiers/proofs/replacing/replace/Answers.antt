use Rattle.std.proofs.Common.{List, sym, subst, arith}
use Rattle.smt_terms.specs.declared.ids.NodeId.{NodeId}
use Rattle.quantifier_forms.specs.Orders.{IsOrdered}
use Rattle.boolean_quantifiers.specs.Replacing.{IsPut, is_known}
use Rattle.boolean_quantifiers.proofs.Puts.{ready-now, root-now}
use Rattle.boolean_quantifiers.proofs.replacing.replace.Goals as goal

pub settle-requires-clause-ready : goal.settle-requires-clause-ready
settle-requires-clause-ready g c =
    let spares = g.I.Images.spares c.args.images.now in
    let order = subst (λ (ks : List NodeId). IsOrdered c.args.table.now (is_known c.args.memo.now c.args.version spares) c.args.root ks) (sym c.deref-id-items.ensures.value) c.in_ok-order.ensures in
    ready-now c.args.table.now c.loop-id.table (g.I.Images.images c.args.images.now) c.args.memo.now c.loop-id.memo c.args.version spares c.args.root c.deref-id-items.result.now c.loop-id.invariant.grows c.requires.images c.requires.spares order c.loop-id.invariant.extends c.loop-id.invariant.put
    c.loop-id.id-index (record { 0 = 0 }) c.loop-id-test.true c.loop-id.invariant.done

pub returns-clause-result : goal.returns-clause-result
returns-clause-result g c =
    let spares = g.I.Images.spares c.args.images.now in
    let order = subst (λ (ks : List NodeId). IsOrdered c.args.table.now (is_known c.args.memo.now c.args.version spares) c.args.root ks) (sym c.deref-id-items.ensures.value) c.in_ok-order.ensures in
    subst (λ (k : NodeId). IsPut c.loop-id.table (g.I.Images.images c.args.images.now) c.args.root k) (sym c.known.ensures)
    (root-now c.args.table.now c.loop-id.table (g.I.Images.images c.args.images.now) c.args.memo.now c.loop-id.memo c.args.version spares c.args.root c.deref-id-items.result.now c.loop-id.invariant.grows c.requires.images c.requires.spares order c.loop-id.invariant.extends c.loop-id.invariant.put
    c.requires.root (λ i d lt within. c.loop-id.invariant.done i d (let past = c.loop-id-test.false in omega arith) within))
