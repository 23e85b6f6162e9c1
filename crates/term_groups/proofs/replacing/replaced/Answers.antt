use Rattle.std.proofs.Common.{List, ap, sym, ◌∙◌, subst}
use Rattle.smt_terms.specs.declared.ids.NodeId.{NodeId}
use Rattle.smt_terms.specs.Term.{Term}
use Rattle.term_table.specs.Formulas.{tree, trees_at, AreNodes}
use Rattle.quantifier_forms.specs.Rebuilding.{with_operands, AreLike}
use Rattle.quantifier_forms.proofs.Sweeps.{known-nodes, known-like}
use Rattle.term_groups.proofs.ReplacedNodes.{rebuilt-replaced, kids-fit}
use Rattle.term_groups.proofs.replacing.replaced.Goals as goal

pub rebuilt-requires-clause-kids : goal.rebuilt-requires-clause-kids
rebuilt-requires-clause-kids c =
    let t = c.args.table.now in
    let each = kids-fit t c.args.memo.now c.args.id c.kids.result.now (sym c.is_binder.ensures ∙ c.if-is_binder.false) c.requires.fit c.kids.ensures.terms c.kids.ensures.below in
    subst (λ (ks : List NodeId). AreNodes t ks) (sym (c.deref.ensures.value ∙ c.in_ok-kids.ensures))
    (known-nodes t c.args.memo.now 0 c.kids.result.now (λ i d lt. (each i d lt).result))

pub rebuilt-requires-clause-like : goal.rebuilt-requires-clause-like
rebuilt-requires-clause-like c =
    let t = c.args.table.now in
    let each = kids-fit t c.args.memo.now c.args.id c.kids.result.now (sym c.is_binder.ensures ∙ c.if-is_binder.false) c.requires.fit c.kids.ensures.terms c.kids.ensures.below in
    subst (λ (us : List Term). AreLike us (trees_at t c.deref.result.now)) c.kids.ensures.terms
    (subst (λ (ks : List NodeId). AreLike (trees_at t c.kids.result.now) (trees_at t ks)) (sym (c.deref.ensures.value ∙ c.in_ok-kids.ensures))
    (known-like t c.args.memo.now 0 c.kids.result.now (λ i d lt. (each i d lt).like)))

pub returns-clause-replaced : goal.returns-clause-replaced
returns-clause-replaced c ns ready none_there =
    let t = c.args.table.now in
    rebuilt-replaced t c.rebuilt.new.table ns c.args.memo.now c.args.id c.in_ok-result.result c.kids.result.now c.in_ok-result.ensures.grows c.requires.node (sym c.is_binder.ensures ∙ c.if-is_binder.false) none_there
    ready c.kids.ensures.terms c.kids.ensures.below c.in_ok-result.ensures.node
    (c.in_ok-result.ensures.term ∙ ap (λ ks. with_operands (tree t c.args.id) (trees_at t ks)) (c.deref.ensures.value ∙ c.in_ok-kids.ensures))
    c.in_ok-result.ensures.like
