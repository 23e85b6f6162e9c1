use Rattle.std.proofs.Common.{◌≡◌, ◌≤◌, ◌-◌, ◌++◌, List, [], length}
use Rattle.smt_lex.specs.Names.{Name}
use Rattle.term_walk.specs.Walking.{GrowsTo}
use Rattle.script_terms.specs.BinderClauses.{binder_seen, AreSortedNames}
use Rattle.script_terms.specs.BinderSteps.{SameNames}
use Rattle.script_terms.specs.Bound.{variables_seen}
use Rattle.script_terms.specs.Known.{sorts_known}
use Rattle.script_terms.specs.Places.{forms_from}
use Rattle.script_terms.specs.Refusals.{mapped}
use Rattle.script_terms.specs.Variables.{variables_in}
use Rattle.script_terms.proofs.binders.read_variables.Given as goal

abbrev pub invariant-loop-alloc : goal.invariant-loop-alloc
invariant-loop-alloc l = record {
  place : l.next ≤ length l.forest.tokens;
  within : AreSortedNames l.table l.forest.tokens l.variables.items;
  earlier : List Name;
  known : SameNames earlier l.names;
  rest : variables_in (binder_seen l.binder) (sorts_known l.fn.table l.scope) [] (forms_from l.forest.tokens l.i) ≡ mapped (λ xs. variables_seen l.table l.forest.tokens l.variables.items ++ xs) (variables_in (binder_seen l.binder) (sorts_known l.fn.table l.scope) earlier (forms_from l.forest.tokens l.next));
  grows : GrowsTo l.fn.table l.table;
  symbols : l.table.symbols ≡ l.fn.table.symbols;
  trees : l.table.trees ≡ l.fn.table.trees;
}

abbrev pub decreases-loop-alloc : goal.decreases-loop-alloc
decreases-loop-alloc l = length l.forest.tokens - l.next
