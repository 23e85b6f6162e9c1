use Rattle.smt_terms.specs.Fresh.{Supply}
use Rattle.term_subst.specs.Building.{FirstSpared}
use Rattle.term_subst_tests.proofs.tests.spared.are_spared.Given as goal

abbrev pub invariant-loop-number : goal.invariant-loop-number
invariant-loop-number l = (s : Supply) → FirstSpared s l.table l.number
