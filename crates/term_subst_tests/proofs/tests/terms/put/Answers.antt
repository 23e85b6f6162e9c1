use Rattle.term_subst_tests.proofs.tests.terms.put.Goals as goal

pub over_last-requires-clause-numbers : goal.over_last-requires-clause-numbers
over_last-requires-clause-numbers g c = c.in-Some.ensures.numbers c.args.table.now
