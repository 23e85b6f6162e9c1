use Rattle.std.proofs.Common.{◌++◌, List, map, take}
use Rattle.evaluation.specs.KeptValues.{KeepsBounds}
use Rattle.pass_laws.specs.Carry.{Asked}
use Rattle.passes.specs.LiveSymbols.{asked_in, given_at, IsWidest}
use Rattle.passes.proofs.carrying.widest_with.Given as goal

abbrev pub invariant-loop-one : goal.invariant-loop-one
invariant-loop-one l = record {
  kept : KeepsBounds l.table l.kept;
  widest : (qs : List Asked) → IsWidest qs l.fn.earlier → IsWidest (qs ++ asked_in (map (given_at l.table) (take l.one-index l.given))) l.widest;
}
