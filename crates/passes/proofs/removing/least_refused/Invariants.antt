use Rattle.std.proofs.Common.{◌≡◌, ◌∷◌, drop}
use Rattle.script_read.specs.CommandLists.{AreCommandsOf}
use Rattle.pass_laws.specs.Passed.{least}
use Rattle.passes.proofs.RefusedCommands.{refused_from}
use Rattle.passes.proofs.removing.least_refused.Given as goal

abbrev pub invariant-loop-i : goal.invariant-loop-i
invariant-loop-i l = record {
  numbers : AreCommandsOf l.table (drop l.i l.commands);
  least : least (l.least ∷ refused_from l.table l.commands l.i) ≡ least (l.first ∷ refused_from l.table l.commands l.start);
}
