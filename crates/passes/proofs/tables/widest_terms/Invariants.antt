use Rattle.std.proofs.Common.{◌++◌, List, take}
use Rattle.term_table.specs.Formulas.{trees_at}
use Rattle.evaluation.specs.KeptValues.{KeepsBounds}
use Rattle.pass_laws.specs.Carry.{Asked, asked_for}
use Rattle.passes.specs.LiveSymbols.{IsWidest}
use Rattle.passes.proofs.tables.widest_terms.Given as goal

abbrev pub invariant-loop-term : goal.invariant-loop-term
invariant-loop-term l = record {
  kept : KeepsBounds l.table l.kept;
  widest : (qs : List Asked) → IsWidest qs l.fn.earlier → IsWidest (qs ++ asked_for l.assertion (trees_at l.table (take l.term-index l.terms))) l.widest;
}
