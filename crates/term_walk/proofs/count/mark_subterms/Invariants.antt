use Rattle.std.proofs.Common.{◌≡◌, ◌≤◌, length}
use Rattle.term_walk.specs.Marks.{AreMarkedFrom}
use Rattle.term_walk.proofs.count.mark_subterms.Given as goal

abbrev pub invariant-loop-number : goal.invariant-loop-number
invariant-loop-number l = record {
  len : length l.marks.items ≡ l.above;
  number : l.number ≤ l.above;
  marks : AreMarkedFrom l.fn.table l.fn.roots l.number l.marks.items;
}
