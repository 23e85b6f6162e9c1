use Rattle.term_subst.specs.Running.{Runs, end_of}
use Rattle.term_subst.specs.State.{Gains, steps_at}
use Rattle.term_subst.specs.Steps.{load}
use Rattle.term_subst.proofs.machine.run.Given as goal

abbrev pub invariant-loop-frame : goal.invariant-loop-frame
invariant-loop-frame l = record {
  gains : Gains l.fn.table l.table l.fn.fresh l.fresh;
  runs : Runs l.table l.fresh l.fn.fresh l.machine l.machine.todo (end_of l.fn.table l.fn.map l.fn.root l.fn.fresh);
}

abbrev pub decreases-loop-frame : goal.decreases-loop-frame
decreases-loop-frame l = load (steps_at l.table l.machine.todo)
