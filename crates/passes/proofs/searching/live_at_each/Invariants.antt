use Rattle.std.proofs.Common.{◌≡◌, take, map}
use Rattle.term_table.specs.Formulas.{Formulas}
use Rattle.pass_laws.specs.LiveGroups.{met_of}
use Rattle.passes.specs.LiveRows.{AreLiveStages}
use Rattle.passes.specs.LiveSymbols.{live_of, lives_at}
use Rattle.passes.specs.Plans.{told_in, IsPlanOver}
use Rattle.passes.proofs.searching.live_at_each.Given as goal

abbrev pub invariant-loop-stage : goal.invariant-loop-stage
invariant-loop-stage l = record {
  live : (t : Formulas) → lives_at t l.lives.items ≡ map (λ st. live_of (met_of l.check st)) (take l.stage-index (told_in t l.plan));
  over : (t : Formulas) → IsPlanOver t l.plan → AreLiveStages t (take l.stage-index l.plan.stages.items) l.lives.items;
}
