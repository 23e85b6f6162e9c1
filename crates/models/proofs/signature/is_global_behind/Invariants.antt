use Rattle.std.proofs.Common.{◌≡◌, false, drop}
use Rattle.models.specs.GoingBack.{global_behind_all}
use Rattle.models.proofs.signature.is_global_behind.Given as goal

abbrev pub invariant-loop-command : goal.invariant-loop-command
invariant-loop-command l = global_behind_all l.global (drop l.command-index l.commands) ≡ global_behind_all false l.commands
