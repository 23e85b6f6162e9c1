use Rattle.std.proofs.Common.{◌≡◌, length, arith}
use Rattle.term_table.specs.Formulas.{kind, tree, AreNodes}
use Rattle.normal_forms.proofs.Inverted.{one-kid, under-not}
use Rattle.normal_forms.proofs.opposites.under_not.Goals as goal

pub bounds-kids-0 : goal.bounds-kids-0
unfolding kind
bounds-kids-0 c =
    let one : length c.kids.result.now ≡ 1 = one-kid c.args.table.now (tree c.args.table.now c.args.id) c.kids.result.now c.in-Not.ensures.term c.requires.sort c.kids.ensures.terms in
    omega (arith, one)

pub returns-in-Not : goal.returns-in-Not
unfolding kind
returns-in-Not c =
    let nodes : AreNodes c.args.table.now c.kids.result.now = λ i d lt. let below = c.kids.ensures.below i d lt in let node = c.requires.node in omega (arith, below, node) in
    under-not c.args.table.now (tree c.args.table.now c.args.id) c.kids.result.now (record { 0 = 0 }) c.in-Not.ensures.term c.requires.sort c.kids.ensures.terms nodes
