use Rattle.std.proofs.Common.{is_some, ap, sym, ◌∙◌, arith}
use Rattle.boolean_quantifiers.proofs.Puts.{none-bound, one-bound}
use Rattle.boolean_quantifiers.proofs.replacing.binds.Goals as goal

pub returns-then-is_some : goal.returns-then-is_some
returns-then-is_some g c =
    sym (one-bound c.args.table.now (g.I.Images.images c.args.images.now) c.args.id c.kids-kids.result.now c.kids-kids.ensures.table c.requires.node c.requires.quantified c.requires.images c.kids-kids.ensures.terms c.kids-kids.ensures.below
    c.loop-kid.kid-index (record { 0 = 0 }) c.loop-kid-test.true (ap is_some (sym c.image.ensures) ∙ sym c.is_some.ensures ∙ c.if-is_some.true))

pub returns : goal.returns
returns g c =
    sym (none-bound c.args.table.now (g.I.Images.images c.args.images.now) c.args.id c.kids-kids.result.now c.kids-kids.ensures.table c.requires.node c.requires.quantified c.requires.images c.kids-kids.ensures.terms c.kids-kids.ensures.below
    (λ i d lt. c.loop-kid.invariant i d (let past = c.loop-kid-test.false in omega arith)))
