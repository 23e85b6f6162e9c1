use Rattle.std.proofs.Common.{◌≡◌, Ok}
use Rattle.smt_values.specs.SortIds.{sort_at, IsSortId}
use Rattle.term_walk.specs.Walking.{GrowsTo}
use Rattle.script_terms.specs.Known.{sorts_known}
use Rattle.script_terms.specs.Places.{form_from}
use Rattle.script_terms.specs.SortForms.{sort_in}
use Rattle.script_terms.specs.SortSteps.{AreFrames, all_filled, frames_size}
use Rattle.script_terms.proofs.sorts.read_sort.Given as goal

abbrev pub invariant-loop-frame : goal.invariant-loop-frame
invariant-loop-frame l = record {
  within : IsSortId l.table.sorts l.sort;
  frames : AreFrames l.forest.tokens l.table.sorts l.waiting;
  rest : sort_in (sorts_known l.fn.table l.scope) (form_from l.forest.tokens l.i) ≡ all_filled (sorts_known l.fn.table l.scope) l.forest.tokens l.table.sorts l.waiting (Ok (sort_at l.table.sorts l.sort));
  grows : GrowsTo l.fn.table l.table;
  symbols : l.table.symbols ≡ l.fn.table.symbols;
  trees : l.table.trees ≡ l.fn.table.trees;
}

abbrev pub decreases-loop-frame : goal.decreases-loop-frame
decreases-loop-frame l = frames_size l.forest.tokens l.waiting
