use Rattle.std.proofs.Common.{arith, ◌∙◌}
use Rattle.sort_check.proofs.Theory.{and_makes, and_term}
use Rattle.sort_check.proofs.chains.conjunction.Goals as goal

pub intern-requires : goal.intern-requires
intern-requires c = and_makes c.args.table.now c.args.kids.now c.requires.truths (omega arith) (omega arith)

pub returns-clause-term : goal.returns-clause-term
returns-clause-term c = c.in_ok-node.ensures.term ∙ and_term c.args.table.now c.args.kids.now (omega arith)
