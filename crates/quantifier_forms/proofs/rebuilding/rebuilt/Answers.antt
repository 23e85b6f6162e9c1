use Rattle.std.proofs.Common.{sym, ◌∙◌, subst}
use Rattle.smt_terms.specs.Term.{Term}
use Rattle.term_table.specs.Formulas.{tree}
use Rattle.quantifier_forms.specs.Rebuilding.{IsLike}
use Rattle.quantifier_forms.proofs.Rebuilt.{AreRebuilt, rebuilt-term}
use Rattle.quantifier_forms.proofs.rebuilding.rebuilt.Goals as goal

pub intern-requires : goal.intern-requires
intern-requires c =
    (rebuilt-term c.args.table.now (tree c.args.table.now c.args.id) c.op-op.result c.args.kids.now (c.op-op.ensures.table.sorted c.args.id.0 c.requires.node) c.requires.applied c.op-op.ensures.term c.op-op.ensures.numbers c.requires.kids c.requires.like).makes

pub returns-clause-term : goal.returns-clause-term
returns-clause-term c =
    c.in_ok-id.ensures.term ∙ (rebuilt-term c.args.table.now (tree c.args.table.now c.args.id) c.op-op.result c.args.kids.now (c.op-op.ensures.table.sorted c.args.id.0 c.requires.node) c.requires.applied c.op-op.ensures.term c.op-op.ensures.numbers c.requires.kids c.requires.like).term

pub returns-clause-like : goal.returns-clause-like
returns-clause-like c =
    let again : AreRebuilt c.args.table.now (tree c.args.table.now c.args.id) c.op-op.result c.args.kids.now = rebuilt-term c.args.table.now (tree c.args.table.now c.args.id) c.op-op.result c.args.kids.now (c.op-op.ensures.table.sorted c.args.id.0 c.requires.node) c.requires.applied c.op-op.ensures.term c.op-op.ensures.numbers c.requires.kids c.requires.like in
    subst (λ (u : Term). IsLike (tree c.args.table.now c.args.id) u) (sym (c.in_ok-id.ensures.term ∙ again.term)) again.like
