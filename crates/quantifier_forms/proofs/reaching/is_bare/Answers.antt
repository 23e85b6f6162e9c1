use Rattle.std.proofs.Common.{arith}
use Rattle.term_table.specs.Formulas.{tree}
use Rattle.quantifier_forms.proofs.Reached.{bare-over}
use Rattle.quantifier_forms.proofs.reaching.is_bare.Goals as goal

pub returns-clause-yes : goal.returns-clause-yes
returns-clause-yes c _ =
    bare-over c.args.table.now (tree c.args.table.now c.args.id) c.args.bare.now.keys c.kids-kid-items.result.now c.requires.applied c.requires.bare c.kids-kid-items.ensures.terms
    (λ i d lt. c.loop-kid.invariant i d (let past = c.loop-kid-test.false in omega arith))
