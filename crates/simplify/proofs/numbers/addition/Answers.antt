use Rattle.smt_terms.specs.Equal.{op_eq}
use Rattle.simplify.specs.Gathering.{sums}
use Rattle.simplify.proofs.numbers.addition.Goals as goal

pub gathered-requires-clause-gathers : goal.gathered-requires-clause-gathers
gathered-requires-clause-gathers c = sums

pub returns-clause-found : goal.returns-clause-found
unfolding op_eq
returns-clause-found c = c.gathered.ensures.found
