use Rattle.std.proofs.Common.{◌≡◌, ◌≤◌}
use Rattle.term_walk.specs.Marks.{marked_below}
use Rattle.term_walk.proofs.count.count_marks.Given as goal

abbrev pub invariant-loop-mark : goal.invariant-loop-mark
invariant-loop-mark l = record {
  value : l.count ≡ marked_below l.marks l.mark-index;
  most : l.count ≤ l.mark-index;
}
