use Rattle.std.proofs.Common.{◌≡◌, ◌++◌, map, take}
use Rattle.models.proofs.live_terms.add_literals.Given as goal

abbrev pub invariant-loop-i : goal.invariant-loop-i
invariant-loop-i l = l.found.items ≡ l.initial.found.items ++ map (λ n. (n, 0)) (take l.i l.literals)
