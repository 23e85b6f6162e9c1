use Rattle.std.proofs.Common.{true, refl, sym, ◌∙◌}
use Rattle.term_table.specs.Formulas.{tree, trees_at}
use Rattle.cnf_polarity.specs.Shapes.{has_connective, is_named}
use Rattle.cnf_polarity.proofs.ConnectiveOrder.{filter-all, named-parts, formulas-in}
use Rattle.cnf_polarity.proofs.clauses.connective_parts.Goals as goal

pub returns-clause-order : goal.returns-clause-order
returns-clause-order c =
    let t = c.args.table.now in
    let ks = c.in_ok-order.order.items in
    let reached = sym (filter-all (trees_at t ks)) ∙ c.in_ok-order.ensures.collected has_connective (λ _. true) (λ k node. refl) (λ q xs u. refl) in
    record {
      formulas = formulas-in t (tree t c.args.id) ks c.requires.sort c.in_ok-order.ensures.nodes reached;
      parts = c.in_ok-order.ensures.parts has_connective (λ k node. refl) (λ q xs u. refl);
      reached = reached;
    }

pub returns-clause-named : goal.returns-clause-named
returns-clause-named c =
    c.in_ok-order.ensures.collected has_connective is_named (λ k node. refl) (λ q xs u. refl) ∙ named-parts (tree c.args.table.now c.args.id)
