use Rattle.std.proofs.Common.{refl}
use Rattle.quantifier_forms.proofs.Orders.{at_terms, at-node}
use Rattle.evaluation.proofs.Listed.{opened}
use Rattle.evaluation.proofs.OrderLaws.{kept_test, is-order}
use Rattle.evaluation.proofs.orders.order_below.Goals as goal

pub returns : goal.returns
returns c =
    let test = kept_test c.args.kept.now in
    is-order c.args.table.now c.args.kept.now c.know_table.ensures c.args.root c.requires.root c.in_ok-order.order.items c.in_ok-order.ensures.nodes
    (c.in_ok-order.ensures.terms (at_terms c.args.table.now test) opened (λ k node. at-node c.args.table.now test c.know_table.ensures k node) (λ k node. refl)) c.requires.narrow
