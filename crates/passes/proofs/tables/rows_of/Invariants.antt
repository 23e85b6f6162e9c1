use Rattle.std.proofs.Common.{map, take}
use Rattle.models.specs.ModelView.{model_at}
use Rattle.evaluation.specs.KeptValues.{KeepsValues}
use Rattle.passes.specs.LiveRows.{operands_by, IsTabling}
use Rattle.passes.specs.LiveSymbols.{given_at}
use Rattle.passes.proofs.tables.rows_of.Given as goal

abbrev pub invariant-loop-one : goal.invariant-loop-one
invariant-loop-one l = record {
  kept : KeepsValues l.table (model_at l.table l.model) l.tabling.kept;
  rows : IsTabling l.table l.model (operands_by l.table l.uses.entries) (map (given_at l.table) (take l.one-index l.given)) l.tabling;
}
