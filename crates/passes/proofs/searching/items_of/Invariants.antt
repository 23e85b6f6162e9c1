use Rattle.std.proofs.Common.{◌≡◌, ◌++◌, length}
use Rattle.passes.proofs.searching.items_of.Given as goal

abbrev pub invariant-loop-item : goal.invariant-loop-item
invariant-loop-item g l = l.items.items ++ l.left ≡ l.fn.stack

abbrev pub decreases-loop-item : goal.decreases-loop-item
decreases-loop-item g l = length l.left
