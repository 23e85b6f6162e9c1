use Rattle.std.proofs.Common.{◌≡◌, ℕ, ◌||◌, length, take}
use Rattle.term_walk.specs.Marks.{is_marked, has_number}
use Rattle.term_walk.proofs.count.mark.Given as goal

abbrev pub invariant-loop-id : goal.invariant-loop-id
invariant-loop-id l = record {
  len : length l.marks.items ≡ length l.fn.marks.items;
  marks : (i : ℕ) → is_marked l.marks.items i ≡ (is_marked l.fn.marks.items i || has_number (take l.id-index l.ids) i);
}
