use Rattle.std.proofs.Common.{refl}
use Rattle.quantifier_forms.specs.Reaching.{is_junction}
use Rattle.quantifier_forms.proofs.Reached.{bare_terms, bare-told, are-reached}
use Rattle.quantifier_forms.proofs.reaching.reached.Goals as goal

pub returns : goal.returns
returns c =
    let t = c.args.table.now in
    let bs = c.args.bare.now.keys in
    are-reached t bs c.args.root c.in_ok-order.order.items c.know_table.ensures c.requires.bare c.requires.root c.in_ok-order.ensures.nodes
    (c.in_ok-order.ensures.terms (bare_terms t bs) is_junction (λ k node. bare-told t bs c.know_table.ensures c.requires.bare k node) (λ k node. refl))
