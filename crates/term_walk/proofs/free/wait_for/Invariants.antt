use Rattle.std.proofs.Common.{◌≡◌, ◌≤◌, ◌+◌, ◌++◌, length, drop, reverse}
use Rattle.term_walk.proofs.free.wait_for.Given as goal

abbrev pub invariant-loop-place : goal.invariant-loop-place
invariant-loop-place l = record {
  within : l.place ≤ length l.ids;
  order : reverse l.waiting.items ≡ drop l.place l.ids ++ reverse l.fn.waiting.items;
  len : length l.waiting.items + l.place ≡ length l.ids + length l.fn.waiting.items;
}
