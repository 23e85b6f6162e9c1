use Rattle.std.proofs.Common.{List, ap, sym, ◌∙◌, subst}
use Rattle.smt_terms.specs.declared.ids.NodeId.{NodeId}
use Rattle.smt_terms.specs.Term.{Term}
use Rattle.term_table.specs.Formulas.{tree, trees_at, AreNodes}
use Rattle.quantifier_forms.specs.Rebuilding.{with_operands, AreLike}
use Rattle.quantifier_forms.proofs.Sweeps.{known-nodes, known-like}
use Rattle.boolean_quantifiers.proofs.Puts.{image-put, rebuilt-put, kids-ready}
use Rattle.boolean_quantifiers.proofs.replacing.put_applied.Goals as goal

pub returns-in-Some-clause-put : goal.returns-in-Some-clause-put
returns-in-Some-clause-put g c = image-put c.args.table.now (g.I.Images.images c.args.images.now) c.args.id c.in-Some.image c.know_table.ensures c.requires.images c.requires.node (sym c.in-Some.ensures)

pub rebuilt-requires-clause-kids : goal.rebuilt-requires-clause-kids
rebuilt-requires-clause-kids g c =
    let each = kids-ready c.args.table.now (g.I.Images.images c.args.images.now) c.args.memo.now c.args.version c.args.id c.kids.result.now c.requires.ready c.kids.ensures.terms c.kids.ensures.below in
    subst (λ (ks : List NodeId). AreNodes c.args.table.now ks) (sym (c.deref.ensures.value ∙ c.in_ok-kids.ensures))
    (known-nodes c.args.table.now c.args.memo.now c.args.version c.kids.result.now (λ i d lt. (each i d lt).result))

pub rebuilt-requires-clause-like : goal.rebuilt-requires-clause-like
rebuilt-requires-clause-like g c =
    let each = kids-ready c.args.table.now (g.I.Images.images c.args.images.now) c.args.memo.now c.args.version c.args.id c.kids.result.now c.requires.ready c.kids.ensures.terms c.kids.ensures.below in
    subst (λ (us : List Term). AreLike us (trees_at c.args.table.now c.deref.result.now)) c.kids.ensures.terms
    (subst (λ (ks : List NodeId). AreLike (trees_at c.args.table.now c.kids.result.now) (trees_at c.args.table.now ks)) (sym (c.deref.ensures.value ∙ c.in_ok-kids.ensures))
    (known-like c.args.table.now c.args.memo.now c.args.version c.kids.result.now (λ i d lt. (each i d lt).like)))

pub returns-clause-put : goal.returns-clause-put
returns-clause-put g c =
    rebuilt-put c.args.table.now c.rebuilt.new.table (g.I.Images.images c.args.images.now) c.args.memo.now c.args.version c.args.id c.in_ok-result.result c.kids.result.now c.know_table.ensures c.in_ok-result.ensures.grows c.requires.images c.requires.node c.requires.applied (sym c.in_default.ensures)
    c.requires.ready c.kids.ensures.terms c.kids.ensures.below c.in_ok-result.ensures.node
    (c.in_ok-result.ensures.term ∙ ap (λ ks. with_operands (tree c.args.table.now c.args.id) (trees_at c.args.table.now ks)) (c.deref.ensures.value ∙ c.in_ok-kids.ensures))
    c.in_ok-result.ensures.like
