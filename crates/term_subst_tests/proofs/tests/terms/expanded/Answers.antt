use Rattle.term_subst_tests.proofs.tests.terms.expanded.Goals as goal

pub expand-requires-clause-names : goal.expand-requires-clause-names
expand-requires-clause-names c = c.requires.spared c.args.root.0 c.requires.root
