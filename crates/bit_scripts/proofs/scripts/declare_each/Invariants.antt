use Rattle.std.proofs.Common.{◌≡◌, ◌++◌, take}
use Rattle.bit_scripts.specs.Spelled.{declarations}
use Rattle.bit_scripts.proofs.scripts.declare_each.Given as goal

abbrev pub invariant-loop-place : goal.invariant-loop-place
invariant-loop-place l = l.commands ≡ l.fn.commands ++ declarations (take l.place l.symbols)
