use Rattle.std.proofs.Common.{◌≡◌, ◌++◌, drop}
use Rattle.smtrw_run.specs.Counted.{ids_of}
use Rattle.smtrw_run.proofs.counting.asserted.Given as goal

abbrev pub invariant-loop-command : goal.invariant-loop-command
invariant-loop-command l = l.ids.items ++ ids_of (drop l.command-index l.commands) ≡ ids_of l.commands
