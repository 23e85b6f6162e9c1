use Rattle.std.proofs.Common.{◌≡◌, ◌≤◌, length, drop, slice_get}
use Rattle.term_table.specs.Formulas.{trees_at}
use Rattle.term_walk.specs.Walking.{GrowsTo}
use Rattle.rule_book.specs.Filling.{Give}
use Rattle.rule_book.specs.Seen.{template_seen}
use Rattle.rule_book.specs.Template.{filled}
use Rattle.rule_book.proofs.filling.fill.Given as goal

abbrev pub invariant-loop-i : goal.invariant-loop-i
invariant-loop-i l = record {
  grows : GrowsTo l.fn.table l.table;
  symbols : l.table.symbols ≡ l.fn.table.symbols;
  sorts : l.table.sorts ≡ l.fn.table.sorts;
  give : Give l.table (trees_at l.fn.table l.holes) (drop l.i (template_seen l.template)) (filled (slice_get (trees_at l.fn.table l.holes)) (template_seen l.template)) l.results.items;
  few : length l.results.items ≤ l.i;
}
