use Rattle.std.proofs.Common.{◌≡◌, ◌+◌, ◌*◌, ◌≤◌, List, ◌++◌, length, drop}
use Rattle.term_table.specs.Formulas.{trees_at}
use Rattle.rule_book.specs.Placed.{AreAt}
use Rattle.rule_book.specs.View.{Place, all_below, places}
use Rattle.rule_book.proofs.viewing.places_over.Given as goal

abbrev pub invariant-loop-k : goal.invariant-loop-k
invariant-loop-k l = record {
  places : (us : List Place) × AreAt l.table us l.places.items × (us ++ all_below l.k (trees_at l.table (drop l.k l.kids)) ≡ places (trees_at l.table l.kids));
  number : length l.places.items ≤ length l.kids + 4 * l.k;
}
