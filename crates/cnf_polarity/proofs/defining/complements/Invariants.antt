use Rattle.std.proofs.Common.{◌≡◌, [], map, take, length}
use Rattle.term_table.specs.Formulas.{trees_at}
use Rattle.term_walk.specs.Walking.{GrowsTo}
use Rattle.cnf_polarity.specs.Cnf.{complement}
use Rattle.cnf_polarity.specs.Putting.{Puts}
use Rattle.cnf_polarity.proofs.defining.complements.Given as goal

abbrev pub invariant-loop-literal : goal.invariant-loop-literal
invariant-loop-literal l = record {
  grows : GrowsTo l.fn.table l.table;
  symbols : l.table.symbols ≡ l.fn.table.symbols;
  sorts : l.table.sorts ≡ l.fn.table.sorts;
  number : length l.others.items ≡ l.literal-index;
  puts : Puts l.fn.table l.table [] l.others.items (map complement (trees_at l.fn.table (take l.literal-index l.fn.literals)));
}
