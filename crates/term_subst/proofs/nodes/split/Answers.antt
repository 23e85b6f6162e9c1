use Rattle.std.proofs.Common.{◌-◌, length}
use Rattle.std.proofs.lemmas.List.Elements.{All-take}
use Rattle.term_table.specs.Formulas.{tree, IsNode}
use Rattle.term_subst.proofs.NodesMade.{body-term, front-variables, front-are, nodes-below}
use Rattle.term_subst.proofs.nodes.split.Goals as goal

pub returns-clause-variables : goal.returns-clause-variables
returns-clause-variables c =
    let t = c.args.table.now in
    let kids = c.kids-kids.result.now in
    front-are t (tree t c.args.node) c.requires.binder kids c.kids-kids.ensures.terms (All-take (IsNode t) (length kids - 1) kids (nodes-below t c.args.node kids c.requires.node c.kids-kids.ensures.below))

pub returns-clause-bound : goal.returns-clause-bound
returns-clause-bound c = front-variables c.args.table.now (tree c.args.table.now c.args.node) c.requires.binder c.kids-kids.result.now c.kids-kids.ensures.terms

pub returns-clause-body : goal.returns-clause-body
returns-clause-body c = body-term c.args.table.now (tree c.args.table.now c.args.node) c.requires.binder c.kids-kids.result.now c.kids-kids.ensures.terms (record { 0 = 0 })
