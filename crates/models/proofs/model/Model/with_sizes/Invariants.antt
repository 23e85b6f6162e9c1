use Rattle.std.proofs.Common.{◌≡◌, take}
use Rattle.smt_terms.specs.Models.{IsModel}
use Rattle.smt_values.specs.SizeTable.{sizes_by}
use Rattle.models.specs.LiveNumbers.{signature_of}
use Rattle.models.specs.ModelView.{model_at, IsModelOf, default_model_of}
use Rattle.models.proofs.model.Model.with_sizes.Given as goal

abbrev pub invariant-loop-s : goal.invariant-loop-s
invariant-loop-s l = record {
  model : model_at l.table l.model ≡ default_model_of (sizes_by l.table.sorts l.fn.sizes) (signature_of l.table record { sorts = l.signature.sorts; symbols = take l.s-index l.symbols });
  valid : IsModel (model_at l.table l.model);
  sizes : l.model.sizes ≡ l.fn.sizes;
  numbers : IsModelOf l.table l.model;
}
