use Rattle.std.proofs.Common.{◌≡◌, ◌++◌}
use Rattle.term_table.specs.Formulas.{tree, trees_at, AreNodes}
use Rattle.term_walk.specs.Walking.{GrowsTo}
use Rattle.bit_blast.specs.Blasted.{bits_from}
use Rattle.bit_blast.specs.Subterms.{symbol_in}
use Rattle.bit_blast.proofs.constants.put_bits.Given as goal

abbrev pub invariant-loop-place : goal.invariant-loop-place
invariant-loop-place l = record {
  grows : GrowsTo l.fn.table l.table;
  symbols : l.table.symbols ≡ l.fn.table.symbols;
  sorts : l.table.sorts ≡ l.fn.table.sorts;
  nodes : AreNodes l.table l.bits.items;
  terms : trees_at l.table l.bits.items ≡ trees_at l.fn.table l.fn.bits.items ++ bits_from (symbol_in (tree l.fn.table l.vector)) 0 l.place;
}
