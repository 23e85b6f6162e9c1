use Rattle.std.proofs.Common.{◌++◌, List, map, take, Some}
use Rattle.evaluation.specs.KeptValues.{KeepsBounds}
use Rattle.pass_laws.specs.Carry.{Asked}
use Rattle.passes.specs.LiveRows.{asked_for_rows, operands_by}
use Rattle.passes.specs.LiveSymbols.{given_at, IsWidest}
use Rattle.passes.proofs.tables.widest_operands.Given as goal

abbrev pub invariant-loop-one : goal.invariant-loop-one
invariant-loop-one l = record {
  kept : KeepsBounds l.table l.kept;
  widest : (qs : List Asked) → IsWidest qs l.fn.earlier → IsWidest (qs ++ asked_for_rows (Some (operands_by l.table l.uses.entries)) (map (given_at l.table) (take l.one-index l.given))) l.widest;
}
