use Rattle.std.proofs.Common.{◌≡◌, ◌++◌, drop, All}
use Rattle.term_walk.specs.Walking.{GrowsTo}
use Rattle.term_subst.specs.Substituting.{IsLater}
use Rattle.script_terms.specs.BinderSteps.{all_drawn}
use Rattle.script_terms.specs.Bound.{is_taken_in, symbols_seen, variables_seen}
use Rattle.script_terms.specs.Known.{IsConstant}
use Rattle.script_terms.proofs.binders.draw_constants.Given as goal

abbrev pub invariant-loop-variable : goal.invariant-loop-variable
invariant-loop-variable l = record {
  symbols : (all_drawn (is_taken_in l.scope l.locals) (variables_seen l.fn.table l.forest.tokens l.variables) l.fn.fresh).0 ≡ symbols_seen l.table l.constants.items ++ (all_drawn (is_taken_in l.scope l.locals) (variables_seen l.fn.table l.forest.tokens (drop l.variable-index l.variables)) l.fresh).0;
  left : (all_drawn (is_taken_in l.scope l.locals) (variables_seen l.fn.table l.forest.tokens l.variables) l.fn.fresh).1 ≡ (all_drawn (is_taken_in l.scope l.locals) (variables_seen l.fn.table l.forest.tokens (drop l.variable-index l.variables)) l.fresh).1;
  constants : All (IsConstant l.table l.fresh) l.constants.items;
  later : IsLater l.fn.fresh l.fresh;
  grows : GrowsTo l.fn.table l.table;
  sorts : l.table.sorts ≡ l.fn.table.sorts;
}
