use Rattle.std.proofs.Common.{List, ap, sym, ◌∙◌, subst}
use Rattle.smt_terms.specs.declared.ids.NodeId.{NodeId}
use Rattle.smt_terms.specs.Term.{Term}
use Rattle.term_table.specs.Formulas.{tree, trees_at, AreNodes}
use Rattle.quantifier_forms.specs.Rebuilding.{with_operands, AreLike}
use Rattle.quantifier_forms.proofs.Sweeps.{kids-for, known-nodes, known-like}
use Rattle.boolean_quantifiers.specs.Expanding.{IsExpanded}
use Rattle.boolean_quantifiers.proofs.Expansions.{applied-expanded}
use Rattle.boolean_quantifiers.proofs.shannon_expansion.expand_applied.Goals as goal

pub rebuilt-requires-clause-kids : goal.rebuilt-requires-clause-kids
rebuilt-requires-clause-kids c =
    let each = kids-for c.args.table.now c.args.results.now 0 c.args.id c.kids.result.now (IsExpanded c.args.table.now) c.requires.ready c.kids.ensures.terms c.kids.ensures.below in
    subst (λ (ks : List NodeId). AreNodes c.args.table.now ks) (sym (c.deref.ensures.value ∙ c.in_ok-kids.ensures))
    (known-nodes c.args.table.now c.args.results.now 0 c.kids.result.now (λ i d lt. (each i d lt).result))

pub rebuilt-requires-clause-like : goal.rebuilt-requires-clause-like
rebuilt-requires-clause-like c =
    let each = kids-for c.args.table.now c.args.results.now 0 c.args.id c.kids.result.now (IsExpanded c.args.table.now) c.requires.ready c.kids.ensures.terms c.kids.ensures.below in
    subst (λ (us : List Term). AreLike us (trees_at c.args.table.now c.deref.result.now)) c.kids.ensures.terms
    (subst (λ (ks : List NodeId). AreLike (trees_at c.args.table.now c.kids.result.now) (trees_at c.args.table.now ks)) (sym (c.deref.ensures.value ∙ c.in_ok-kids.ensures))
    (known-like c.args.table.now c.args.results.now 0 c.kids.result.now (λ i d lt. (each i d lt).like)))

pub returns-clause-expanded : goal.returns-clause-expanded
returns-clause-expanded c =
    applied-expanded c.args.table.now c.rebuilt.new.table c.args.results.now c.args.id c.in_ok-result.result c.kids.result.now c.in_ok-result.ensures.grows c.requires.node c.requires.applied
    c.requires.ready c.kids.ensures.terms c.kids.ensures.below c.in_ok-result.ensures.node
    (c.in_ok-result.ensures.term ∙ ap (λ ks. with_operands (tree c.args.table.now c.args.id) (trees_at c.args.table.now ks)) (c.deref.ensures.value ∙ c.in_ok-kids.ensures))
    c.in_ok-result.ensures.like
