use Rattle.std.proofs.Common.{◌≡◌, ◌≤◌, ◌-◌, ◌++◌, length, map, All}
use Rattle.smt_values.specs.SortIds.{sort_at, IsSortId}
use Rattle.term_walk.specs.Walking.{GrowsTo}
use Rattle.script_terms.specs.Known.{sorts_known}
use Rattle.script_terms.specs.Places.{forms_from}
use Rattle.script_terms.specs.Refusals.{mapped}
use Rattle.script_terms.specs.SortForms.{sorts_in}
use Rattle.script_terms.proofs.sorts.read_sorts.Given as goal

abbrev pub invariant-loop-alloc : goal.invariant-loop-alloc
invariant-loop-alloc l = record {
  place : l.next ≤ length l.forest.tokens;
  within : All (IsSortId l.table.sorts) l.sorts.items;
  rest : sorts_in (sorts_known l.fn.table l.scope) (forms_from l.forest.tokens l.i) ≡ mapped (λ ss. map (sort_at l.table.sorts) l.sorts.items ++ ss) (sorts_in (sorts_known l.fn.table l.scope) (forms_from l.forest.tokens l.next));
  grows : GrowsTo l.fn.table l.table;
  symbols : l.table.symbols ≡ l.fn.table.symbols;
  trees : l.table.trees ≡ l.fn.table.trees;
}

abbrev pub decreases-loop-alloc : goal.decreases-loop-alloc
decreases-loop-alloc l = length l.forest.tokens - l.next
