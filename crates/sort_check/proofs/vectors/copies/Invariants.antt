use Rattle.sort_check.proofs.Repeating.{Copied}
use Rattle.sort_check.proofs.vectors.copies.Given as goal

abbrev pub invariant-loop : goal.invariant-loop
invariant-loop l = Copied l.initial.table l.table l.kid l.all l.more l.counter
