use Rattle.std.specs.Iterator.Adapters.{zip_first, zip_second}
use Rattle.std.specs.Slice.Iter.{iter_rest}
use Rattle.term_table.specs.Formulas.{trees_at}
use Rattle.bit_blast.specs.BitLoops.{gate_over, MakesEach}
use Rattle.bit_blast.specs.Circuits.{each}
use Rattle.bit_blast.proofs.gates.pairs.Given as goal

abbrev pub invariant-loop-x : goal.invariant-loop-x
invariant-loop-x l =
    MakesEach (gate_over l.fn.gate) l.fn.table l.table (iter_rest (zip_first l.x-iterator)) (iter_rest (zip_second l.x-iterator)) l.bits.items
    (each (gate_over l.fn.gate) (trees_at l.fn.table l.a) (trees_at l.fn.table l.b))
