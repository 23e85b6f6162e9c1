use Rattle.std.proofs.Common.{take}
use Rattle.evaluation.specs.KeptValues.{KeepsBounds}
use Rattle.passes.specs.LiveSymbols.{all_asked_in, lives_at, IsWidest}
use Rattle.passes.proofs.carrying.check_widths.Given as goal

abbrev pub invariant-loop-live : goal.invariant-loop-live
invariant-loop-live l = record {
  kept : KeepsBounds l.table l.kept;
  widest : IsWidest (all_asked_in (lives_at l.table (take l.live-index l.lives))) l.widest;
}
