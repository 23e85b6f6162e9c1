use Rattle.std.proofs.Common.{◌≡◌, ◌≤◌, ◌++◌, map, drop, length}
use Rattle.term_subst.specs.declared.survey.Task.TheVariants.{Visit}
use Rattle.term_subst.proofs.survey.push_visits.Given as goal

abbrev pub invariant-loop-place : goal.invariant-loop-place
invariant-loop-place l = (l.tasks ≡ map Visit (drop l.place l.nodes) ++ l.fn.tasks) × (l.place ≤ length l.nodes)
