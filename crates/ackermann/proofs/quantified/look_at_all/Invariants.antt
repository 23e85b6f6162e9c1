use Rattle.std.proofs.Common.{take}
use Rattle.ackermann.specs.Marking.{AreKnown}
use Rattle.ackermann.proofs.quantified.look_at_all.Given as goal

abbrev pub invariant-loop-id : goal.invariant-loop-id
invariant-loop-id l = AreKnown l.table l.known.applied.keys l.known.refused.keys (take l.id-index l.order)
