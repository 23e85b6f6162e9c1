use Rattle.std.proofs.Common.{◌≡◌, ◌≤◌, ◌++◌, take, drop}
use Rattle.models.specs.GoingBack.{before_check}
use Rattle.models.proofs.signature.before_check.Given as goal

abbrev pub invariant-loop-place : goal.invariant-loop-place
invariant-loop-place l = record {
  counting : 1 ≤ l.left;
  rest : before_check l.check l.commands ≡ take l.place l.commands ++ before_check l.left (drop l.place l.commands);
}
