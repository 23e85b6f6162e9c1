use Rattle.std.proofs.Common.{◌≡◌, ℕ, false, length}
use Rattle.term_walk.specs.Marks.{is_marked}
use Rattle.term_walk.proofs.count.no_marks.Given as goal

abbrev pub invariant-loop : goal.invariant-loop
invariant-loop l = record {
  none : (i : ℕ) → is_marked l.marks.items i ≡ false;
  length : length l.marks.items ≡ l.counter;
}
