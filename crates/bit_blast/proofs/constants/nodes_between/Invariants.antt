use Rattle.std.proofs.Common.{◌≡◌, ◌-◌, take, drop}
use Rattle.bit_blast.proofs.constants.nodes_between.Given as goal

abbrev pub invariant-loop-place : goal.invariant-loop-place
invariant-loop-place l = l.some.items ≡ take (l.place - l.start) (drop l.start l.nodes)
