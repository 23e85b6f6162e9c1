use Rattle.std.proofs.Common.{map, slice_get}
use Rattle.ackermann.proofs.ReachedUses.{IsOnWay}
use Rattle.ackermann.proofs.uses.LiveUses.places_of.Given as goal

abbrev pub invariant-loop-left : goal.invariant-loop-left
invariant-loop-left l = IsOnWay l.self l.fn.function l.left (map (slice_get l.self) l.places.items)

abbrev pub decreases-loop-left : goal.decreases-loop-left
decreases-loop-left l = l.left
