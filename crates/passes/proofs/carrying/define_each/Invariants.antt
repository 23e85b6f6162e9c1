use Rattle.std.proofs.Common.{◌≡◌, map, vec_len, All}
use Rattle.smt_terms.specs.Models.{IsModel}
use Rattle.models.specs.ModelView.{model_at, IsModelOf}
use Rattle.passes.specs.LiveSymbols.{with_each, valued_at, IsValueFor}
use Rattle.passes.proofs.carrying.define_each.Given as goal

abbrev pub invariant-loop-symbol : goal.invariant-loop-symbol
invariant-loop-symbol l = record {
  model : with_each (map (valued_at l.table) l.values.items) (model_at l.table l.model) ≡ with_each (map (valued_at l.table) l.fn.values.items) (model_at l.table l.fn.model);
  each : All (IsValueFor l.table l.model) l.values.items;
  valid : IsModel (model_at l.table l.fn.model) → IsModel (model_at l.table l.model);
  numbers : IsModelOf l.table l.fn.model → IsModelOf l.table l.model;
}

abbrev pub decreases-loop-symbol : goal.decreases-loop-symbol
decreases-loop-symbol l = vec_len l.values
