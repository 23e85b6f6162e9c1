use Rattle.std.proofs.Common.{map, take}
use Rattle.models.specs.ModelView.{model_at}
use Rattle.evaluation.specs.KeptValues.{KeepsValues}
use Rattle.passes.specs.LiveSymbols.{given_at, IsValuation}
use Rattle.passes.proofs.carrying.values_of.Given as goal

abbrev pub invariant-loop-one : goal.invariant-loop-one
invariant-loop-one l = record {
  kept : KeepsValues l.table (model_at l.table l.model) l.valuation.kept;
  values : IsValuation l.table l.model (map (given_at l.table) (take l.one-index l.given)) l.valuation;
}
