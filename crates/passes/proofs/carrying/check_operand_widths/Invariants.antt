use Rattle.std.proofs.Common.{◌≤◌, length, drop}
use Rattle.evaluation.specs.KeptValues.{KeepsBounds}
use Rattle.passes.specs.LiveRows.{all_asked_at}
use Rattle.passes.specs.LiveSymbols.{IsWidest}
use Rattle.passes.proofs.carrying.check_operand_widths.Given as goal

abbrev pub invariant-loop-place : goal.invariant-loop-place
invariant-loop-place l = record {
  within : l.place ≤ length l.stages;
  kept : KeepsBounds l.table l.kept;
  widest : IsWidest (all_asked_at l.table (drop l.place l.stages) (drop l.place l.lives)) l.widest;
}
