use Rattle.term_subst_tests.proofs.tests.terms.with_image.Goals as goal

pub substituted-requires-clause-spared : goal.substituted-requires-clause-spared
substituted-requires-clause-spared c = c.requires.spared c.in_ok-fresh.fresh

pub expanded-requires-clause-spared : goal.expanded-requires-clause-spared
expanded-requires-clause-spared c = c.requires.spared c.in_ok-fresh.fresh
