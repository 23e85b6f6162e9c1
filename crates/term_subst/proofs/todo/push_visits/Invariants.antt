use Rattle.std.proofs.Common.{◌≡◌, ◌≤◌, ◌++◌, map, drop, length}
use Rattle.term_subst.specs.declared.todo.Frame.TheVariants.{Visit}
use Rattle.term_subst.proofs.todo.push_visits.Given as goal

abbrev pub invariant-loop-place : goal.invariant-loop-place
invariant-loop-place l = (l.todo ≡ map Visit (drop l.place l.nodes) ++ l.fn.todo) × (l.place ≤ length l.nodes)
