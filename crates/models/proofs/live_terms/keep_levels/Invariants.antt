use Rattle.std.proofs.Common.{◌≡◌, ◌≤◌, length, take, reverse}
use Rattle.models.specs.LiveAssertions.{on_levels}
use Rattle.models.proofs.live_terms.keep_levels.Given as goal

abbrev pub invariant-loop-left : goal.invariant-loop-left
invariant-loop-left l = record {
  within : l.left ≤ length l.placed.items;
  rest : on_levels l.levels (reverse (take l.left l.placed.items)) ≡ on_levels l.levels (reverse l.placed.items);
}

abbrev pub decreases-loop-left : goal.decreases-loop-left
decreases-loop-left l = l.left
