use Rattle.std.proofs.Common.{◌≡◌, map, length, take}
use Rattle.term_table.specs.Formulas.{trees_at}
use Rattle.rule_book.specs.Placed.{place_seen}
use Rattle.rule_book.specs.Seen.{cell_seen}
use Rattle.rule_book.specs.View.{cell_of}
use Rattle.rule_book.proofs.viewing.cells_of.Given as goal

abbrev pub invariant-loop-place : goal.invariant-loop-place
invariant-loop-place l = record {
  cells : map (cell_seen l.table.sorts) l.cells ≡ map (cell_of (trees_at l.table l.holes)) (map (place_seen l.table) (take l.place-index l.places));
  number : length l.cells ≡ l.place-index;
}
