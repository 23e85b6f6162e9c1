use Rattle.std.proofs.Common.{sym, ◌∙◌, arith}
use Rattle.term_table.specs.Formulas.{tree, AreNodes}
use Rattle.evaluation.proofs.BoundLaws.{kids-bounded, applied-told}
use Rattle.evaluation.proofs.bounds.bound_of_one.Goals as goal

pub greatest-requires : goal.greatest-requires
greatest-requires c =
    let nodes : AreNodes c.args.table.now c.kids.result.now = λ i d lt. let b = c.kids.ensures.below i d lt in let here = c.requires.node in omega arith in
    kids-bounded c.args.table.now c.args.kept.now (tree c.args.table.now c.args.id) c.kids.result.now c.requires.operands c.kids.ensures.terms nodes

pub returns : goal.returns
returns c =
    let nodes : AreNodes c.args.table.now c.kids.result.now = λ i d lt. let b = c.kids.ensures.below i d lt in let here = c.requires.node in omega arith in
    c.greatest.ensures
    ∙ applied-told c.args.table.now c.args.kept.now (tree c.args.table.now c.args.id) c.kids.result.now (sym c.is_binder.ensures ∙ c.if-is_binder.false) c.kids.ensures.terms c.requires.kept
    (kids-bounded c.args.table.now c.args.kept.now (tree c.args.table.now c.args.id) c.kids.result.now c.requires.operands c.kids.ensures.terms nodes)
