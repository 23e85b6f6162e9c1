use Rattle.std.proofs.Common.{refl}
use Rattle.quantifier_forms.proofs.Orders.{all, at_terms, at-node, is-ordered}
use Rattle.evaluation.specs.KeptValues.{has_bound}
use Rattle.evaluation.proofs.bounds.order_without_bounds.Goals as goal

pub returns : goal.returns
returns c =
    let test = has_bound c.args.kept.now in
    is-ordered c.args.table.now test c.know_table.ensures c.args.root c.requires c.in_ok-order.order.items c.in_ok-order.ensures.nodes
    (c.in_ok-order.ensures.terms (at_terms c.args.table.now test) all (λ k node. at-node c.args.table.now test c.know_table.ensures k node) (λ k node. refl))
