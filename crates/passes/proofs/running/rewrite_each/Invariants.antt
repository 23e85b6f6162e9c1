use Rattle.std.proofs.Common.{◌≡◌, length}
use Rattle.term_walk.specs.Walking.{GrowsTo}
use Rattle.term_subst.specs.Substituting.{IsLater, NeverGivesGained}
use Rattle.script_read.specs.CommandLists.{commands_of, AreCommandsOf}
use Rattle.pass_laws.proofs.InForm.{IsUnderWay}
use Rattle.passes.proofs.running.rewrite_each.Given as goal

abbrev pub invariant-loop-i : goal.invariant-loop-i
invariant-loop-i g l = record {
  count : length l.script.commands ≡ length l.fn.script.commands;
  numbers : AreCommandsOf l.table l.script.commands;
  under_way : IsUnderWay g.R.Rewriter.form (commands_of l.fn.table l.fn.script.commands) l.fn.fresh l.i (commands_of l.table l.script.commands) l.fresh;
  fits : g.R.Rewriter.fits l.rewriter l.table;
  later : IsLater l.fn.fresh l.fresh;
  drawn : NeverGivesGained l.fresh l.fn.table.symbols l.table.symbols;
  grows : GrowsTo l.fn.table l.table;
}
