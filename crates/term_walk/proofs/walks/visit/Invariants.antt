use Rattle.std.proofs.Common.{◌≡◌, ◌+◌, ◌-◌, ◌≤◌, List, length}
use Rattle.smt_terms.specs.Term.{Term}
use Rattle.term_table.specs.Formulas.{tree}
use Rattle.term_walk.specs.Places.{results}
use Rattle.term_walk.specs.Stacks.{Leads, IsCounted, open_costs, looked_up}
use Rattle.term_walk.specs.Subterms.{subterms}
use Rattle.term_walk.specs.Walking.{GrowsTo, Fits, Stay, StayClosed, GainsUnder}
use Rattle.term_walk.proofs.walks.visit.Given as goal

abbrev pub invariant-loop-frame : goal.invariant-loop-frame
invariant-loop-frame g l = record {
  fits : Fits (g.S.NodeStep.related (g.S.NodeStep.meaning l.step)) l.table l.kept;
  meaning : g.S.NodeStep.meaning l.step ≡ g.S.NodeStep.meaning l.fn.step;
  grows : GrowsTo l.fn.table l.table;
  symbols : l.table.symbols ≡ l.fn.table.symbols;
  sorts : l.table.sorts ≡ l.fn.table.sorts;
  stay : Stay l.fn.kept l.kept;
  closed : StayClosed l.fn.kept l.kept;
  gained : GainsUnder l.fn.table l.fn.root l.fn.kept l.kept;
  leads : Leads l.table.trees l.kept l.fn.root l.stack;
  most : (us ts : List Term) → IsCounted us ts l.fn.table.trees l.fn.root → l.steps + open_costs us ts l.kept (length ts) ≤ l.fn.steps + open_costs us ts l.fn.kept (length ts) + looked_up l.stack;
  least : results l.kept + l.fn.steps ≤ results l.fn.kept + l.steps;
}

abbrev pub decreases-loop-frame : goal.decreases-loop-frame
decreases-loop-frame g l = open_costs (subterms (tree l.fn.table l.fn.root)) l.fn.table.trees l.kept (length l.fn.table.trees) - looked_up l.stack
