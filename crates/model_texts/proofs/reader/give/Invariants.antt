use Rattle.std.proofs.Common.{◌≡◌, ◌++◌, length}
use Rattle.std.specs.Vec.Iter.{into_iter_items, into_iter_len}
use Rattle.smt_terms.specs.Models.{IsModel}
use Rattle.smt_values.specs.Meaning.{meaning}
use Rattle.term_table.specs.Formulas.{symbol_at, IsTable}
use Rattle.models.specs.ModelView.{model_at, IsModelOf}
use Rattle.model_texts.proofs.TablesTaken.{with_rows}
use Rattle.model_texts.proofs.reader.give.Given as goal

-- the model has the rows so far
abbrev pub invariant-loop-row : goal.invariant-loop-row
invariant-loop-row l = record {
  items : l.yielded ++ into_iter_items l.row-iterator ≡ l.fn.given.rows.items;
  count : into_iter_len l.row-iterator ≡ length (into_iter_items l.row-iterator);
  table : IsTable l.table;
  model : model_at l.table l.model ≡ with_rows (symbol_at l.table l.symbol) (model_at l.table l.fn.model) (meaning l.fn.given.otherwise) l.yielded;
  valid : IsModel (model_at l.table l.model);
  sizes : l.model.sizes ≡ l.fn.model.sizes;
  numbers : IsModelOf l.table l.fn.model → IsModelOf l.table l.model;
}
