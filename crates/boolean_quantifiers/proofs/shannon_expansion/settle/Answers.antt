use Rattle.boolean_quantifiers.proofs.Expansions.{sets-expanded}
use Rattle.boolean_quantifiers.proofs.shannon_expansion.settle.Goals as goal

pub returns-clause-expanded : goal.returns-clause-expanded
returns-clause-expanded c = sets-expanded c.args.table.now c.expand.new.table c.args.results.now c.set.new.self c.args.id c.in_ok-result.result c.in_ok-result.ensures.grows c.requires.expanded c.in_ok-result.ensures.expanded c.in_ok-set.ensures.ok
