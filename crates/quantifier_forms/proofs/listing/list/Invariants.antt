use Rattle.std.proofs.Common.{◌≡◌, ◌+◌, [], Bool, length}
use Rattle.smt_terms.specs.Term.{Term}
use Rattle.term_table.specs.Formulas.{tree, trees_at}
use Rattle.quantifier_forms.specs.Listing.{listed}
use Rattle.quantifier_forms.specs.Tasks.{after_tasks, TellAlike, Stands, work_left}
use Rattle.quantifier_forms.proofs.listing.list.Given as goal

abbrev pub invariant-loop-task : goal.invariant-loop-task
invariant-loop-task g l = record {
  stands : Stands l.fn.table l.tasks l.met.keys l.done.items;
  rest : (skips opens : Term → Bool) → TellAlike l.fn.table (g.C.Choice.skips l.fn.choice) skips → TellAlike l.fn.table (g.C.Choice.opens l.fn.choice l.fn.table) opens → after_tasks skips opens l.fn.table l.tasks (trees_at l.fn.table l.done.items) ≡ listed skips opens (tree l.fn.table l.fn.root) [];
}

abbrev pub decreases-loop-task : goal.decreases-loop-task
decreases-loop-task g l = work_left l.fn.table l.met.keys (length l.fn.table.trees) + length l.tasks
