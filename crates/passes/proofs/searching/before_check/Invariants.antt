use Rattle.std.proofs.Common.{◌≡◌, ◌≤◌, ◌++◌, take, drop}
use Rattle.term_table.specs.Formulas.{Formulas}
use Rattle.pass_laws.specs.LiveGroups.{before_check}
use Rattle.passes.specs.Plans.{steps_of}
use Rattle.passes.proofs.searching.before_check.Given as goal

abbrev pub invariant-loop-place : goal.invariant-loop-place
invariant-loop-place l = record {
  left : 1 ≤ l.left;
  before : (t : Formulas) → before_check l.check (steps_of t l.steps) ≡ steps_of t (take l.place l.steps) ++ before_check l.left (drop l.place (steps_of t l.steps));
}
