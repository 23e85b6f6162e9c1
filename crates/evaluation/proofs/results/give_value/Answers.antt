use Rattle.evaluation.proofs.FoundValues.{given-here, given-others}
use Rattle.evaluation.proofs.results.give_value.Goals as goal

pub returns-clause-here : goal.returns-clause-here
returns-clause-here c = given-here c.args.found.now.entries c.insert.new.self.entries c.args.id c.args.value c.in_ok-insert.ensures.updates.0

pub returns-clause-others : goal.returns-clause-others
returns-clause-others c k apart = given-others c.args.found.now.entries c.insert.new.self.entries c.args.id c.args.value c.in_ok-insert.ensures.updates.0 k apart
