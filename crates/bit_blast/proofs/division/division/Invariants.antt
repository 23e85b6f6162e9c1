use Rattle.bit_blast.specs.VectorLoops.{AreQuotients}
use Rattle.bit_blast.proofs.division.division.Given as goal

abbrev pub invariant-loop-place : goal.invariant-loop-place
invariant-loop-place l = AreQuotients l.fn.table l.table l.a l.b l.place l.divisor.items l.quotient.items l.rest.items
