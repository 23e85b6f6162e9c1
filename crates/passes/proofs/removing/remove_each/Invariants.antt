use Rattle.std.proofs.Common.{◌≡◌, length}
use Rattle.term_walk.specs.Walking.{GrowsTo}
use Rattle.term_subst.specs.Substituting.{IsLater, NeverGivesGained}
use Rattle.script_read.specs.CommandLists.{commands_of}
use Rattle.passes.specs.Removing.{IsRemovalOver}
use Rattle.passes.proofs.GroupingSteps.{SameFrom}
use Rattle.passes.proofs.RemovalWalk.{StandsAt}
use Rattle.passes.proofs.removing.remove_each.Given as goal

abbrev pub invariant-loop-i : goal.invariant-loop-i
invariant-loop-i l = record {
  count : length l.script.commands ≡ length l.fn.script.commands;
  rest : SameFrom l.i l.script.commands l.fn.script.commands;
  over : IsRemovalOver l.table l.fresh l.removal;
  stands : StandsAt (commands_of l.fn.table l.fn.script.commands) l.fn.fresh l.i l.table l.removal l.fresh;
  later : IsLater l.fn.fresh l.fresh;
  drawn : NeverGivesGained l.fresh l.fn.table.symbols l.table.symbols;
  grows : GrowsTo l.fn.table l.table;
}
