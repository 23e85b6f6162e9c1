use Rattle.std.proofs.Common.{◌≡◌, List}
use Rattle.smt_terms.specs.Models.{IsModel}
use Rattle.smt_terms.specs.Sorts.{Name}
use Rattle.smt_values.specs.SizeTable.{sizes_by}
use Rattle.models.specs.LiveNumbers.{signature_of}
use Rattle.models.specs.ModelView.{model_at, AreSizesOf, IsModelOf}
use Rattle.model_texts.specs.Reading.{Element, sizes}
use Rattle.model_texts.specs.TextTables.{AreOfText}
use Rattle.model_texts.proofs.ModelTaken.{Taking}
use Rattle.model_texts.proofs.reader.model_over.Given as goal

-- the model has the tables so far
abbrev pub invariant-loop-given : goal.invariant-loop-given
invariant-loop-given l = record {
  taking : Taking (signature_of l.table l.signature) l.fn.given.entries l.given-iterator (sizes_by l.table.sorts l.initial.model.sizes) (model_at l.table l.model);
  same : l.model.sizes ≡ l.initial.model.sizes;
  positive : AreSizesOf l.table l.signature.sorts l.initial.model.sizes;
  alike : (es : List Element) → AreOfText l.table l.signature l.fn.given.entries l.elements es → (n : Name) → sizes_by l.table.sorts l.initial.model.sizes n ≡ sizes es n;
  valid : IsModel (model_at l.table l.model);
  numbers : IsModelOf l.table l.model;
}
