use Rattle.std.proofs.Common.{◌≡◌, ◌≤◌, ℕ, None, map, length, drop}
use Rattle.smt_terms.specs.Models.{IsModel}
use Rattle.models.specs.ModelView.{model_at, IsModelOf}
use Rattle.pass_laws.specs.Carry.{beyond}
use Rattle.pass_laws.specs.LiveGroups.{back_by, back_stages_by}
use Rattle.passes.specs.LiveRows.{AreAppliedAt}
use Rattle.passes.specs.LiveSymbols.{AreLiveAt}
use Rattle.passes.specs.Plans.{told_of}
use Rattle.passes.proofs.carrying.return_all.Given as goal

abbrev pub invariant-loop-place : goal.invariant-loop-place
invariant-loop-place l = record {
  within : l.place ≤ length l.stages;
  beyond : (k : ℕ) → AreLiveAt l.table k (map (told_of l.table) l.stages) l.lives → AreAppliedAt k (map (told_of l.table) l.stages)
      → beyond (back_stages_by k (drop l.place (map (told_of l.table) l.stages)) (model_at l.table l.fn.model)) ≡ None;
  model : (k : ℕ) → AreLiveAt l.table k (map (told_of l.table) l.stages) l.lives → AreAppliedAt k (map (told_of l.table) l.stages)
      → model_at l.table l.model ≡ back_by k (drop l.place (map (told_of l.table) l.stages)) (model_at l.table l.fn.model);
  numbers : IsModelOf l.table l.model;
  valid : IsModel (model_at l.table l.model);
}
