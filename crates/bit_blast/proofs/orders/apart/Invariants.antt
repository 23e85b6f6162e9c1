use Rattle.std.proofs.Common.{drop}
use Rattle.bit_blast.specs.BitLoops.{apart_in, MakesApart}
use Rattle.bit_blast.proofs.orders.apart.Given as goal

abbrev pub invariant-loop-i : goal.invariant-loop-i
invariant-loop-i l = MakesApart l.fn.table l.table (drop l.i l.vectors) l.bits.items (apart_in l.fn.table l.vectors)
