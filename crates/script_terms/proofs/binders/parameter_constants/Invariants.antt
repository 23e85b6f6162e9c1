use Rattle.std.proofs.Common.{◌≡◌, map, take, All}
use Rattle.smt_terms.specs.Fresh.{Supply}
use Rattle.smt_values.specs.SortIds.{sort_at}
use Rattle.term_walk.specs.Walking.{GrowsTo}
use Rattle.script_terms.specs.Bound.{symbols_seen}
use Rattle.script_terms.specs.Known.{parameters_of, IsConstant}
use Rattle.script_terms.proofs.binders.parameter_constants.Given as goal

abbrev pub invariant-loop-number : goal.invariant-loop-number
invariant-loop-number l = record {
  symbols : symbols_seen l.table l.constants.items ≡ parameters_of 0 (map (λ x. sort_at l.fn.table.sorts x.sort) (take l.number l.variables));
  constants : (supply : Supply) → All (IsConstant l.table supply) l.constants.items;
  grows : GrowsTo l.fn.table l.table;
  sorts : l.table.sorts ≡ l.fn.table.sorts;
}
