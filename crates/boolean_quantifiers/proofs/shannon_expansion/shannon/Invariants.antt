use Rattle.std.proofs.Common.{◌≡◌}
use Rattle.term_walk.specs.Walking.{GrowsTo}
use Rattle.quantifier_forms.proofs.Sweeps.{AreDone}
use Rattle.boolean_quantifiers.specs.Expanding.{AreExpanded}
use Rattle.boolean_quantifiers.specs.Working.{IsWork}
use Rattle.boolean_quantifiers.proofs.shannon_expansion.shannon.Given as goal

abbrev pub invariant-loop-node : goal.invariant-loop-node
invariant-loop-node l = record {
  grows : GrowsTo l.fn.table l.table;
  symbols : l.table.symbols ≡ l.fn.table.symbols;
  expanded : AreExpanded l.table l.results;
  work : IsWork l.table l.work;
  done : AreDone l.results 0 l.node-items l.node-index;
}
