use Rattle.std.proofs.Common.{◌++◌, map, drop}
use Rattle.term_table.specs.Formulas.{trees_at}
use Rattle.bit_blast.specs.BitLoops.{differ_in, MakesUnequal}
use Rattle.bit_blast.proofs.orders.push_apart.Given as goal

abbrev pub invariant-loop-b : goal.invariant-loop-b
invariant-loop-b l = MakesUnequal l.fn.table l.table l.a (drop l.b-index l.others) l.bits.items (trees_at l.fn.table l.fn.bits.items ++ map (differ_in l.fn.table l.a) l.others)
