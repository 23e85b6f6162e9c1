use Rattle.smt_terms.specs.Free.{free}
use Rattle.term_table.specs.Formulas.{tree}
use Rattle.term_subst.specs.State.{AreLists}
use Rattle.term_subst.specs.Steps.{load}
use Rattle.term_subst.specs.Surveying.{Surveys, tasks_at}
use Rattle.term_subst.proofs.survey.list_free.Given as goal

abbrev pub invariant-loop-task : goal.invariant-loop-task
invariant-loop-task l = record {
  lists : AreLists l.table l.lists;
  surveys : Surveys l.table l.survey.scope l.survey.tasks (free (tree l.table l.fn.root));
}

abbrev pub decreases-loop-task : goal.decreases-loop-task
decreases-loop-task l = load (tasks_at l.table l.survey.tasks)
