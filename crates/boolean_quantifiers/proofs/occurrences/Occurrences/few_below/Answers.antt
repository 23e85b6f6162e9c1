use Rattle.std.proofs.Common.{arith}
use Rattle.smt_terms.proofs.Tests.{not_true}
use Rattle.term_walk.specs.FreeLists.{has_node}
use Rattle.boolean_quantifiers.proofs.Noted.{unlisted-apart}
use Rattle.boolean_quantifiers.proofs.occurrences.Occurrences.few_below.Goals as goal

pub returns : goal.returns
returns c k there candidate e =
    unlisted-apart c.args.table.now c.args.self.now.candidates.keys c.args.self.now.notes.entries c.requires.notes c.args.id c.kids-kid-items.result.now c.kids-kid-items.ensures.terms
    c.loop-kid.list.items k c.kids-kid-items.ensures.table c.requires.node there candidate (not_true (has_node c.loop-kid.list.items k) e) c.loop-kid.invariant.own
    (λ i d j lt unlisted. c.loop-kid.invariant.kids i d j (let past = c.loop-kid-test.false in omega arith) unlisted)
