use Rattle.dimacs_link.proofs.Numbering.{AreFirst}
use Rattle.dimacs_link.proofs.numbers.Numbers.of.Given as goal

abbrev pub invariant-loop-place : goal.invariant-loop-place
invariant-loop-place l = AreFirst l.table l.constants l.place l.numbers
