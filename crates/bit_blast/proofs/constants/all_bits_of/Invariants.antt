use Rattle.std.proofs.Common.{◌≡◌, take}
use Rattle.std.specs.List.{flat_map}
use Rattle.term_table.specs.Formulas.{trees_at, AreNodes}
use Rattle.term_walk.specs.Walking.{GrowsTo}
use Rattle.bit_blast.specs.Subterms.{constant_bits}
use Rattle.bit_blast.proofs.constants.all_bits_of.Given as goal

abbrev pub invariant-loop-vector : goal.invariant-loop-vector
invariant-loop-vector l = record {
  grows : GrowsTo l.fn.table l.table;
  symbols : l.table.symbols ≡ l.fn.table.symbols;
  sorts : l.table.sorts ≡ l.fn.table.sorts;
  nodes : AreNodes l.table l.bits.items;
  terms : trees_at l.table l.bits.items ≡ flat_map constant_bits (trees_at l.fn.table (take l.vector-index l.vectors));
}
