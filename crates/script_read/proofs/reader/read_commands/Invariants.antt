use Rattle.std.proofs.Common.{◌-◌, ◌≤◌, length}
use Rattle.term_walk.specs.Walking.{GrowsTo}
use Rattle.script_read.specs.CommandLists.{AreCommandsOf}
use Rattle.script_terms.specs.Places.{SparesText, forms_from}
use Rattle.script_read.specs.Script.{Standing, read_commands}
use Rattle.script_read.specs.Steps.{StandsAt}
use Rattle.script_read.proofs.ReaderSteps.{Going}
use Rattle.script_read.proofs.reader.read_commands.Given as goal

abbrev pub invariant-loop-next : goal.invariant-loop-next
invariant-loop-next l = record {
  within : l.at ≤ length l.forest.tokens;
  count : l.read ≤ l.at;
  asserted : l.session.asserted ≤ l.read;
  grows : GrowsTo l.fn.table l.table;
  text : SparesText l.forest.tokens l.session.sofar.fresh;
  commands : AreCommandsOf l.table l.commands;
  going : (s : Standing) → StandsAt l.fn.table l.fn.session s → Going l.table l.session l.commands l.forest.tokens l.read l.at (read_commands 1 (forms_from l.forest.tokens 0) s);
}

abbrev pub decreases-loop-next : goal.decreases-loop-next
decreases-loop-next l = length l.forest.tokens - l.at
