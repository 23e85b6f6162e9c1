use Rattle.std.proofs.Common.{◌≡◌, ◌≤◌}
use Rattle.ackermann.specs.LevelsAt.{open_levels, closed}
use Rattle.ackermann.proofs.live.Ack.pop.Given as goal

abbrev pub invariant-loop-left : goal.invariant-loop-left
invariant-loop-left l = record {
  closed : closed l.left l.self ≡ closed l.fn.levels l.fn.self;
  within : l.left ≤ open_levels l.self;
}

abbrev pub decreases-loop-left : goal.decreases-loop-left
decreases-loop-left l = l.left
