use Rattle.std.proofs.Common.{rules}
use Rattle.sort_check.specs.Slots.{slot}
use Rattle.sort_check.proofs.written.slot.Goals as goal

pub returns-clause-slot : goal.returns-clause-slot
unfolding slot
returns-clause-slot c = search rules
