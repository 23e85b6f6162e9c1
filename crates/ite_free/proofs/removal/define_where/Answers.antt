use Rattle.std.proofs.Common.{◌∙◌}
use Rattle.smt_terms.specs.Connectives.{implies, equal}
use Rattle.term_table.specs.Formulas.{tree}
use Rattle.term_subst.proofs.Growing.{tree-grows}
use Rattle.term_walk.proofs.Visits.{table-grows}
use Rattle.ite_free.proofs.DefinedNodes.{pushed-terms}
use Rattle.ite_free.proofs.removal.define_where.Goals as goal

pub returns-clause-terms : goal.returns-clause-terms
returns-clause-terms c =
    let t0 = c.args.table.now in
    let t1 = c.equation.new.table in
    let t2 = c.implication.new.table in
    let condition = tree-grows t0 t1 c.in_ok-is_term.ensures.grows c.args.condition c.requires.condition.node in
    pushed-terms t0 t2 c.args.asserts.now c.push.new.self c.in_ok-holds.holds (implies (tree t0 c.args.condition) (equal (tree t0 c.args.constant) (tree t0 c.args.term)))
    (table-grows t0 t1 t2 c.in_ok-is_term.ensures.grows c.in_ok-holds.ensures.grows) c.requires.asserts c.in_ok-push.ensures.ok
    (c.in_ok-holds.ensures.term ∙ (λ i. implies (condition i) (c.in_ok-is_term.ensures.term i)))
