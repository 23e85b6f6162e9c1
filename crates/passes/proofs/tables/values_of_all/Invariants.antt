use Rattle.std.proofs.Common.{take}
use Rattle.models.specs.ModelView.{model_at}
use Rattle.term_table.specs.Formulas.{trees_at}
use Rattle.evaluation.specs.KeptValues.{KeepsValues}
use Rattle.passes.specs.LiveRows.{AreValuesIn}
use Rattle.passes.proofs.tables.values_of_all.Given as goal

abbrev pub invariant-loop-term : goal.invariant-loop-term
invariant-loop-term l = record {
  kept : KeepsValues l.table (model_at l.table l.model) l.kept;
  values : AreValuesIn (model_at l.table l.model) (trees_at l.table (take l.term-index l.terms)) l.values.items;
}
