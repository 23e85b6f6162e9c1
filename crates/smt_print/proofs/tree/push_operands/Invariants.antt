use Rattle.std.proofs.Common.{◌≡◌, ◌≤◌, ◌++◌, length, drop}
use Rattle.smt_print.specs.TreeSteps.{operand_steps}
use Rattle.smt_print.proofs.tree.push_operands.Given as goal

abbrev pub invariant-loop-place : goal.invariant-loop-place
invariant-loop-place l = record {
  within : l.place ≤ length l.ids;
  order : l.steps ≡ operand_steps (drop l.place l.ids) ++ l.fn.steps;
}
