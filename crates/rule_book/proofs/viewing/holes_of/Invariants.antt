use Rattle.std.proofs.Common.{◌≡◌, ◌≤◌, map, length, take}
use Rattle.term_table.specs.Formulas.{trees_at, AreNodes}
use Rattle.rule_book.specs.Placed.{place_seen}
use Rattle.rule_book.specs.View.{holes_of}
use Rattle.rule_book.proofs.viewing.holes_of.Given as goal

abbrev pub invariant-loop-place : goal.invariant-loop-place
invariant-loop-place l = record {
  nodes : AreNodes l.table l.holes.items;
  terms : trees_at l.table l.holes.items ≡ holes_of (map (place_seen l.table) (take l.place-index l.places));
  number : length l.holes.items ≤ l.place-index;
}
