use Rattle.std.proofs.Common.{◌≡◌, ℕ, ◌+◌, ◌<◌, ◌≤◌, true, length, get_or}
use Rattle.smt_terms.specs.declared.ids.NodeId.{NodeId}
use Rattle.term_table.specs.Formulas.{trees_at}
use Rattle.term_walk.specs.Places.{is_closed_at, results}
use Rattle.term_walk.specs.Stacks.{open_costs}
use Rattle.term_walk.specs.Subterms.{all_subterms}
use Rattle.term_walk.specs.Walking.{GrowsTo, Fits, Stay, GainsBelow}
use Rattle.term_walk.proofs.walks.walk_all.Given as goal

abbrev pub invariant-loop-root : goal.invariant-loop-root
invariant-loop-root g l = record {
  fits : Fits (g.S.NodeStep.related (g.S.NodeStep.meaning l.step)) l.table l.kept;
  meaning : g.S.NodeStep.meaning l.step ≡ g.S.NodeStep.meaning l.fn.step;
  grows : GrowsTo l.fn.table l.table;
  symbols : l.table.symbols ≡ l.fn.table.symbols;
  sorts : l.table.sorts ≡ l.fn.table.sorts;
  stay : Stay l.fn.kept l.kept;
  gained : GainsBelow l.fn.table (trees_at l.fn.table l.roots) l.fn.kept l.kept;
  closed : (i : ℕ) (d : NodeId) → i < l.root-index → is_closed_at l.kept (get_or l.roots i d).0 ≡ true;
  most : l.steps + open_costs (all_subterms (trees_at l.fn.table l.roots)) l.fn.table.trees l.kept (length l.fn.table.trees) ≤ l.fn.steps + open_costs (all_subterms (trees_at l.fn.table l.roots)) l.fn.table.trees l.fn.kept (length l.fn.table.trees);
  least : results l.kept + l.fn.steps ≤ results l.fn.kept + l.steps;
}
