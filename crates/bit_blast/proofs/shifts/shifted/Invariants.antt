use Rattle.bit_blast.specs.VectorLoops.{AreShifted}
use Rattle.bit_blast.proofs.shifts.shifted.Given as goal

abbrev pub invariant-loop-moves : goal.invariant-loop-moves
invariant-loop-moves l = AreShifted l.fn.table l.table l.fn.way l.fn.bit l.a l.b l.moves-index l.distance l.bits.items
