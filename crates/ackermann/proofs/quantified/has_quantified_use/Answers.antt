use Rattle.std.proofs.Common.{sym, ◌∙◌, subst}
use Rattle.term_table.specs.Formulas.{AreNodes}
use Rattle.ackermann.specs.Ackermann.{has_quantified_use}
use Rattle.ackermann.specs.Marking.{has_application, AreMarked}
use Rattle.ackermann.proofs.MarkedNodes.{none-marked, told-mark, before-each, root-there}
use Rattle.ackermann.proofs.quantified.has_quantified_use.Goals as goal

pub look_at_all-requires-clause-nodes : goal.look_at_all-requires-clause-nodes
look_at_all-requires-clause-nodes c = subst (AreNodes c.args.table.now) (sym c.deref.ensures.value) c.in_ok-order.ensures.order.nodes

pub look_at_all-requires-clause-order : goal.look_at_all-requires-clause-order
look_at_all-requires-clause-order c = before-each c.args.table.now c.args.root c.in_ok-order.order.items c.deref.result.now c.deref.ensures.value c.in_ok-order.ensures.order

pub look_at_all-requires-clause-nothing : goal.look_at_all-requires-clause-nothing
look_at_all-requires-clause-nothing c = record {
  with_applications = none-marked c.args.table.now has_application c.nothing_known-known.result.applied.keys c.nothing_known-known.ensures.applied;
  with_quantified_uses = none-marked c.args.table.now has_quantified_use c.nothing_known-known.result.refused.keys c.nothing_known-known.ensures.refused;
}

pub returns : goal.returns
returns c =
    let t = c.args.table.now in
    let ks = c.in_ok-order.order.items in
    c.contains.ensures
    ∙ told-mark t has_quantified_use c.look_at_all.new.known.refused.keys ks c.args.root
    (subst (AreMarked t has_quantified_use c.look_at_all.new.known.refused.keys) c.deref.ensures.value c.in_ok-look_at_all.ensures.with_quantified_uses) c.requires (root-there t c.args.root ks c.in_ok-order.ensures.order)
