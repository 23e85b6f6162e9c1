use Rattle.std.proofs.Common.{◌≡◌, ◌+◌, List, ◌++◌, length, take}
use Rattle.term_table.specs.Formulas.{trees_at}
use Rattle.rule_book.specs.Placed.{placed, AreAt}
use Rattle.rule_book.specs.View.{Place}
use Rattle.rule_book.proofs.viewing.place_all.Given as goal

abbrev pub invariant-loop-id : goal.invariant-loop-id
invariant-loop-id l = record {
  places : (us : List Place) → AreAt l.table us l.fn.places.items → AreAt l.table (us ++ placed l.up (trees_at l.table (take l.id-index l.kids))) l.places.items;
  number : length l.places.items ≡ length l.fn.places.items + l.id-index;
}
