use Rattle.normal_forms_tests.proofs.tests.terms.applied.Goals as goal

pub made-requires-clause-numbers : goal.made-requires-clause-numbers
made-requires-clause-numbers g c = c.in-Some.ensures.numbers c.args.table.now
