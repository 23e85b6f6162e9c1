use Rattle.std.proofs.Common.{sym, ◌∙◌, arith}
use Rattle.boolean_quantifiers.proofs.Noted.{plain-below}
use Rattle.boolean_quantifiers.proofs.occurrences.Occurrences.binds_below.Goals as goal

pub returns : goal.returns
returns c e =
    plain-below c.args.table.now c.args.self.now.candidates.keys c.args.self.now.notes.entries c.requires.notes c.args.id c.kids-kid-items.result.now c.kids-kid-items.ensures.terms (sym c.is_binder.ensures ∙ c.if-is_binder.false)
    (λ i d lt. c.loop-kid.invariant i d (let past = c.loop-kid-test.false in omega arith))
