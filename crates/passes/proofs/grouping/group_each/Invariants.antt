use Rattle.std.proofs.Common.{◌≡◌, length, take}
use Rattle.term_walk.specs.Walking.{GrowsTo}
use Rattle.term_subst.specs.Substituting.{IsLater, NeverGivesGained}
use Rattle.script_read.specs.CommandLists.{commands_of, AreCommandsOf}
use Rattle.pass_laws.specs.Groups.{groups_from}
use Rattle.passes.specs.Plans.{Tells}
use Rattle.passes.proofs.GroupingSteps.{SameFrom}
use Rattle.passes.proofs.GroupingWalk.{IsGrouped}
use Rattle.passes.proofs.grouping.group_each.Given as goal

abbrev pub invariant-loop-i : goal.invariant-loop-i
invariant-loop-i g l = record {
  count : length l.script.commands ≡ length l.fn.script.commands;
  rest : SameFrom l.i l.script.commands l.fn.script.commands;
  numbers : AreCommandsOf l.table l.commands;
  made : IsGrouped g.G.Grouper.making (commands_of l.fn.table l.fn.script.commands) l.fn.fresh l.i (commands_of l.table l.commands) l.fresh;
  told : Tells l.table l.steps.items (groups_from g.G.Grouper.making (take l.i (commands_of l.fn.table l.fn.script.commands)) l.fn.fresh).0;
  later : IsLater l.fn.fresh l.fresh;
  drawn : NeverGivesGained l.fresh l.fn.table.symbols l.table.symbols;
  grows : GrowsTo l.fn.table l.table;
}
