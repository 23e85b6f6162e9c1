use Rattle.std.proofs.Common.{◌≡◌, map, take}
use Rattle.term_table.specs.Formulas.{symbol_at}
use Rattle.script_read.specs.CommandLists.{commands_of, AreCommandsOf}
use Rattle.script_read.specs.Commands.{declare}
use Rattle.bit_scripts.proofs.scripts.declared_flags.Given as goal

abbrev pub invariant-loop-flag : goal.invariant-loop-flag
invariant-loop-flag l = record {
  numbers : AreCommandsOf l.table l.commands;
  commands : commands_of l.table l.commands ≡ map declare (map (symbol_at l.table) (take l.flag-index l.flag-items));
}
