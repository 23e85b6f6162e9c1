use Rattle.std.proofs.Common.{◌≡◌, ◌++◌, take}
use Rattle.bit_scripts.specs.Spelled.{assertions}
use Rattle.bit_scripts.proofs.scripts.assert_each.Given as goal

abbrev pub invariant-loop-place : goal.invariant-loop-place
invariant-loop-place l = l.commands ≡ l.fn.commands ++ assertions 1 (take l.place l.formulas)
