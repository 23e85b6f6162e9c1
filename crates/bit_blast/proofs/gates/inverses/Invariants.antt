use Rattle.std.proofs.Common.{map, drop}
use Rattle.term_table.specs.Formulas.{trees_at}
use Rattle.bit_blast.specs.BitLoops.{MakesMap}
use Rattle.bit_blast.specs.Blasted.{term_gates}
use Rattle.bit_blast.specs.Circuits.{inverse}
use Rattle.bit_blast.proofs.gates.inverses.Given as goal

abbrev pub invariant-loop-x : goal.invariant-loop-x
invariant-loop-x l = MakesMap (inverse term_gates) l.fn.table l.table (drop l.x-index l.a) l.bits.items (map (inverse term_gates) (trees_at l.fn.table l.a))
