use Rattle.std.proofs.Common.{◌≡◌, ◌≤◌, ◌++◌, length, drop}
use Rattle.smt_print.specs.DagSteps.{visits}
use Rattle.smt_print.proofs.dag.push_visits.Given as goal

abbrev pub invariant-loop-place : goal.invariant-loop-place
invariant-loop-place l = record {
  within : l.place ≤ length l.ids;
  order : l.steps ≡ visits (drop l.place l.ids) ++ l.fn.steps;
}
