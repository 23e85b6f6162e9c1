use Rattle.std.proofs.Common.{◌≡◌, ◌≤◌, ◌++◌, length, drop, map}
use Rattle.quantifier_forms.specs.declared.tasks.Task.TheVariants.{Enter}
use Rattle.quantifier_forms.proofs.tasks.enter_all.Given as goal

abbrev pub invariant-loop-place : goal.invariant-loop-place
invariant-loop-place l = record {
  within : l.place ≤ length l.ids;
  order : l.tasks ≡ map (λ k. Enter k) (drop l.place l.ids) ++ l.fn.tasks;
}
