use Rattle.std.proofs.Common.{List, ap, sym, ◌∙◌, subst}
use Rattle.smt_terms.specs.declared.ids.NodeId.{NodeId}
use Rattle.smt_terms.specs.Term.{Term}
use Rattle.term_table.specs.Formulas.{tree, trees_at, AreNodes}
use Rattle.quantifier_forms.specs.Rebuilding.{with_operands, AreLike}
use Rattle.quantifier_forms.proofs.Sweeps.{known-nodes, known-like}
use Rattle.boolean_quantifiers.proofs.SelfNodes.{kids-known, applied-told, applied-stands}
use Rattle.boolean_quantifiers.proofs.self_substitution.solve_applied.Goals as goal

pub rebuilt-requires-clause-kids : goal.rebuilt-requires-clause-kids
rebuilt-requires-clause-kids c =
    let each = kids-known c.args.table.now c.args.table.now c.args.results.now c.args.id c.args.id c.kids.result.now c.requires.ready c.kids.ensures.terms c.kids.ensures.below in
    subst (λ (ks : List NodeId). AreNodes c.args.table.now ks) (sym (c.deref.ensures.value ∙ c.in_ok-kids.ensures))
    (known-nodes c.args.table.now c.args.results.now 0 c.kids.result.now (λ i d lt. (c.requires.stand.1 _ _ (each i d lt)).result))

pub rebuilt-requires-clause-like : goal.rebuilt-requires-clause-like
rebuilt-requires-clause-like c =
    let each = kids-known c.args.table.now c.args.table.now c.args.results.now c.args.id c.args.id c.kids.result.now c.requires.ready c.kids.ensures.terms c.kids.ensures.below in
    subst (λ (us : List Term). AreLike us (trees_at c.args.table.now c.deref.result.now)) c.kids.ensures.terms
    (subst (λ (ks : List NodeId). AreLike (trees_at c.args.table.now c.kids.result.now) (trees_at c.args.table.now ks)) (sym (c.deref.ensures.value ∙ c.in_ok-kids.ensures))
    (known-like c.args.table.now c.args.results.now 0 c.kids.result.now (λ i d lt. (c.requires.stand.1 _ _ (each i d lt)).like)))

pub returns-clause-stands : goal.returns-clause-stands
returns-clause-stands c left stand own =
    applied-stands c.args.table.now c.rebuilt.new.table c.args.results.now left c.args.id c.in_ok-result.result c.kids.result.now c.in_ok-result.ensures.grows c.requires.node c.requires.applied stand own
    (kids-known c.args.table.now c.args.table.now c.args.results.now c.args.id c.args.id c.kids.result.now c.requires.ready c.kids.ensures.terms c.kids.ensures.below) c.in_ok-result.ensures.node
    (c.in_ok-result.ensures.term ∙ ap (λ (ks : List NodeId). with_operands (tree c.args.table.now c.args.id) (trees_at c.args.table.now ks)) (c.deref.ensures.value ∙ c.in_ok-kids.ensures)) c.in_ok-result.ensures.like

pub returns-clause-told : goal.returns-clause-told
returns-clause-told c es are =
    applied-told c.args.table.now c.rebuilt.new.table c.args.results.now c.args.id c.in_ok-result.result c.kids.result.now c.requires.ready c.kids.ensures.terms c.kids.ensures.below es c.requires.applied are
    (c.in_ok-result.ensures.term ∙ ap (λ (ks : List NodeId). with_operands (tree c.args.table.now c.args.id) (trees_at c.args.table.now ks)) (c.deref.ensures.value ∙ c.in_ok-kids.ensures))
