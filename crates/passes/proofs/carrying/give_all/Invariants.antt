use Rattle.std.proofs.Common.{◌≡◌, ℕ, true, drop, map}
use Rattle.smt_terms.specs.declared.ids.NodeId.{NodeId}
use Rattle.smt_terms.specs.Models.{IsModel}
use Rattle.models.specs.ModelView.{model_at, IsModelOf}
use Rattle.pass_laws.specs.Carry.{beyond}
use Rattle.passes.specs.Carrying.{breaks_in}
use Rattle.pass_laws.specs.LiveGroups.{forth_by, forth_stages_by}
use Rattle.passes.specs.LiveSymbols.{AreLiveAt}
use Rattle.passes.specs.Plans.{told_of}
use Rattle.passes.proofs.carrying.give_all.Given as goal

abbrev pub invariant-loop-place : goal.invariant-loop-place
invariant-loop-place l = record {
  beyond : (k : ℕ) → AreLiveAt l.table k (map (told_of l.table) l.stages) l.lives
      → beyond (forth_stages_by k (map (told_of l.table) l.stages) (model_at l.table l.fn.model)) ≡ beyond (forth_stages_by k (drop l.place (map (told_of l.table) l.stages)) (model_at l.table l.model));
  model : (k : ℕ) → AreLiveAt l.table k (map (told_of l.table) l.stages) l.lives
      → forth_by k (map (told_of l.table) l.stages) (model_at l.table l.fn.model) ≡ forth_by k (drop l.place (map (told_of l.table) l.stages)) (model_at l.table l.model);
  breaks : (k : ℕ) → AreLiveAt l.table k (map (told_of l.table) l.stages) l.lives → (a : ℕ) (n : NodeId)
      → breaks_in l.table (forth_stages_by k (drop l.place (map (told_of l.table) l.stages)) (model_at l.table l.model)) a n ≡ true
      → breaks_in l.table (forth_stages_by k (map (told_of l.table) l.stages) (model_at l.table l.fn.model)) a n ≡ true;
  numbers : IsModelOf l.table l.model;
  valid : IsModel (model_at l.table l.model);
}
