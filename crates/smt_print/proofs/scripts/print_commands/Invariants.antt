use Rattle.std.proofs.Common.{[], take}
use Rattle.script_read.specs.CommandLists.{commands_of}
use Rattle.smt_print.specs.Prefix.{Drafts}
use Rattle.smt_print.specs.Text.{lines}
use Rattle.smt_print.proofs.scripts.print_commands.Given as goal

abbrev pub invariant-loop-i : goal.invariant-loop-i
invariant-loop-i g l = Drafts (g.O.Output.text l.fn.out) [] (g.O.Output.text l.out) l.draft.text (lines l.layout (commands_of l.table (take l.i l.script.commands)))
