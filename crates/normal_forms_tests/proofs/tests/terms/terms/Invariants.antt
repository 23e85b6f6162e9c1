use Rattle.std.proofs.Common.{◌≤◌, length}
use Rattle.normal_forms_tests.proofs.tests.terms.terms.Given as goal

abbrev pub invariant-loop-place : goal.invariant-loop-place
invariant-loop-place g l = l.place ≤ length l.text

abbrev pub decreases-loop-place : goal.decreases-loop-place
decreases-loop-place g l = l.place
