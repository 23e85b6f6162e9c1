use Rattle.std.proofs.Common.{◌≡◌, map, take}
use Rattle.smt_terms.specs.Connectives.{either}
use Rattle.term_table.specs.Formulas.{tree, trees_at}
use Rattle.term_walk.specs.Walking.{GrowsTo}
use Rattle.cnf_polarity.specs.Putting.{Puts}
use Rattle.cnf_polarity.proofs.defining.each.Given as goal

abbrev pub invariant-loop-literal : goal.invariant-loop-literal
invariant-loop-literal l = record {
  grows : GrowsTo l.fn.table l.table;
  symbols : l.table.symbols ≡ l.fn.table.symbols;
  sorts : l.table.sorts ≡ l.fn.table.sorts;
  puts : Puts l.fn.table l.table l.fn.asserts l.asserts (map (either (tree l.fn.table l.fn.other)) (trees_at l.fn.table (take l.literal-index l.fn.literals)));
}
