use Rattle.std.proofs.Common.{◌≡◌, map, reverse, vec_len, All}
use Rattle.smt_terms.specs.Models.{IsModel}
use Rattle.models.specs.ModelView.{model_at, IsModelOf}
use Rattle.passes.specs.LiveRows.{with_rows_for, row_at, IsRowFor}
use Rattle.passes.proofs.tables.add_rows.Given as goal

abbrev pub invariant-loop-row : goal.invariant-loop-row
invariant-loop-row l = record {
  model : with_rows_for (map (row_at l.table) (reverse l.left.items)) (model_at l.table l.model) ≡ with_rows_for (map (row_at l.table) l.fn.rows.items) (model_at l.table l.fn.model);
  each : All (IsRowFor l.table l.model) l.left.items;
  valid : IsModel (model_at l.table l.model);
  numbers : IsModelOf l.table l.fn.model → IsModelOf l.table l.model;
}

abbrev pub decreases-loop-row : goal.decreases-loop-row
decreases-loop-row l = vec_len l.left
