use Rattle.boolean_quantifiers.proofs.Cases.{work-stays}
use Rattle.boolean_quantifiers.proofs.shannon_expansion.expand.Goals as goal

pub returns-clause-work : goal.returns-clause-work
returns-clause-work c = work-stays c.args.table.now c.expand_applied.new.table c.args.work.now c.in_ok-result-2.ensures.grows c.requires.work
