use Rattle.sort_check.proofs.Folding.{LeftFold}
use Rattle.sort_check.proofs.folds.from_left.Given as goal

abbrev pub invariant-loop-kid : goal.invariant-loop-kid
invariant-loop-kid l = LeftFold l.initial.table l.table l.op l.fn.first l.rest l.all l.kid-index
