use Rattle.std.proofs.Common.{◌≡◌, take, length}
use Rattle.script_terms.proofs.levels.cut.Given as goal

abbrev pub invariant-loop-entries : goal.invariant-loop-entries
invariant-loop-entries g l = take l.len l.entries.entries ≡ take l.len l.initial.entries.entries

abbrev pub decreases-loop-entries : goal.decreases-loop-entries
decreases-loop-entries g l = length l.entries.entries
