use Rattle.sort_check.proofs.Folding.{RightFold}
use Rattle.sort_check.proofs.folds.from_right.Given as goal

abbrev pub invariant-loop-k : goal.invariant-loop-k
invariant-loop-k l = RightFold l.initial.table l.table l.op l.kids l.all l.k
