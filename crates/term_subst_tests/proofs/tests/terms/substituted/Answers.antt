use Rattle.term_subst_tests.proofs.tests.terms.substituted.Goals as goal

pub substitute-requires-clause-names : goal.substitute-requires-clause-names
substitute-requires-clause-names c = c.requires.spared c.args.root.0 c.requires.root
