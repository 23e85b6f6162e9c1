use Rattle.std.proofs.Common.{◌≡◌, ◌+◌, ◌*◌, ◌≤◌}
use Rattle.script_terms.specs.Known.{sorts_known}
use Rattle.script_terms.specs.Places.{IsForm, form_from}
use Rattle.script_terms.specs.SortForms.{sort_in}
use Rattle.script_terms.specs.SortSteps.{AreFrames, all_filled, form_size, frames_size}
use Rattle.script_terms.proofs.sorts.first_sort.Given as goal

abbrev pub invariant-loop-sort : goal.invariant-loop-sort
invariant-loop-sort l = record {
  form : IsForm l.forest.tokens l.i;
  frames : AreFrames l.forest.tokens l.table.sorts l.waiting;
  rest : all_filled (sorts_known l.table l.scope) l.forest.tokens l.table.sorts l.fn.waiting (sort_in (sorts_known l.table l.scope) (form_from l.forest.tokens l.fn.i)) ≡ all_filled (sorts_known l.table l.scope) l.forest.tokens l.table.sorts l.waiting (sort_in (sorts_known l.table l.scope) (form_from l.forest.tokens l.i));
  size : frames_size l.forest.tokens l.waiting + 2 * form_size (form_from l.forest.tokens l.i) ≤ frames_size l.forest.tokens l.fn.waiting + 2 * form_size (form_from l.forest.tokens l.fn.i);
}

abbrev pub decreases-loop-sort : goal.decreases-loop-sort
decreases-loop-sort l = form_size (form_from l.forest.tokens l.i)
