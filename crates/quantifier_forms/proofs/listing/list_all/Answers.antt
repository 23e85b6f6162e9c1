use Rattle.std.proofs.Common.{false, refl}
use Rattle.quantifier_forms.proofs.Orders.{all, is-ordered}
use Rattle.quantifier_forms.proofs.listing.list_all.Goals as goal

pub returns-clause-order : goal.returns-clause-order
returns-clause-order c =
    is-ordered c.args.table.now (λ _. false) c.know_table.ensures c.args.root c.requires c.in_ok-order.order.items c.in_ok-order.ensures.nodes
    (c.in_ok-order.ensures.terms (λ _. false) all (λ k node. refl) (λ k node. refl))

pub returns-clause-terms : goal.returns-clause-terms
returns-clause-terms c = c.in_ok-order.ensures.terms (λ _. false) all (λ k node. refl) (λ k node. refl)
