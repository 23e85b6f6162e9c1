use Rattle.std.proofs.Common.{◌≡◌, map, take, None, All}
use Rattle.term_walk.specs.Walking.{GrowsTo}
use Rattle.term_subst.specs.Substituting.{IsLater, NeverGivesGained}
use Rattle.script_read.specs.CommandLists.{commands_of, AreCommandsOf}
use Rattle.pass_laws.specs.Passed.{refused_assertion}
use Rattle.passes.specs.Plans.{HasStages, IsStageOver}
use Rattle.passes.specs.Removing.{IsStageKept}
use Rattle.passes.proofs.PassAfterPass.{IsBehind}
use Rattle.passes.proofs.running.run_passes.Given as goal

abbrev pub invariant-loop-i : goal.invariant-loop-i
invariant-loop-i g l = record {
  numbers : AreCommandsOf l.table l.script.commands;
  behind : IsBehind l.passes (commands_of l.fn.table l.fn.script.commands) l.fn.fresh (map (λ r. r.name.now) l.book.rules.items) l.i (commands_of l.table l.script.commands) l.fresh;
  planned : HasStages l.table l.stages.items (take l.i l.passes) (commands_of l.fn.table l.fn.script.commands) l.fn.fresh;
  taken : refused_assertion (take l.i l.passes) (commands_of l.fn.table l.fn.script.commands) l.fn.fresh ≡ None;
  kept : All (IsStageKept l.table) l.stages.items;
  over : All (IsStageOver l.table) l.stages.items;
  later : IsLater l.fn.fresh l.fresh;
  drawn : NeverGivesGained l.fresh l.fn.table.symbols l.table.symbols;
  grows : GrowsTo l.fn.table l.table;
}
