use Rattle.std.proofs.Common.{refl}
use Rattle.quantifier_forms.proofs.Orders.{all, at_terms, at-node, is-ordered}
use Rattle.boolean_quantifiers.specs.Replacing.{is_known}
use Rattle.boolean_quantifiers.proofs.replacing.unknown.Goals as goal

pub returns : goal.returns
returns g c =
    let test = is_known c.args.memo.now c.args.version (g.I.Images.spares c.args.images.now) in
    is-ordered c.args.table.now test c.know_table.ensures c.args.root c.requires c.in_ok-order.order.items c.in_ok-order.ensures.nodes
    (c.in_ok-order.ensures.terms (at_terms c.args.table.now test) all (λ k node. at-node c.args.table.now test c.know_table.ensures k node) (λ k node. refl))
