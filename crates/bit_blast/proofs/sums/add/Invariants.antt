use Rattle.std.specs.Iterator.Adapters.{zip_first, zip_second}
use Rattle.std.specs.Slice.Iter.{iter_rest}
use Rattle.term_table.specs.Formulas.{tree, trees_at}
use Rattle.bit_blast.specs.BitLoops.{MakesSum}
use Rattle.bit_blast.specs.Blasted.{term_gates}
use Rattle.bit_blast.specs.Circuits.{add}
use Rattle.bit_blast.proofs.sums.add.Given as goal

abbrev pub invariant-loop-x : goal.invariant-loop-x
invariant-loop-x l =
    MakesSum l.fn.table l.table (iter_rest (zip_first l.x-iterator)) (iter_rest (zip_second l.x-iterator)) l.bits.items l.carry
    (add term_gates (trees_at l.fn.table l.a) (trees_at l.fn.table l.b) (tree l.fn.table l.fn.carry))
