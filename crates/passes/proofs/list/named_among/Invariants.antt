use Rattle.std.proofs.Common.{◌≡◌, map, drop}
use Rattle.pass_laws.specs.Lists.{pass_among}
use Rattle.passes.proofs.list.named_among.Given as goal

abbrev pub invariant-loop-other : goal.invariant-loop-other
invariant-loop-other l =
    pass_among (map (λ p. (p.0.now, p.1)) l.names) l.name
    ≡ pass_among (drop l.other-index (map (λ p. (p.0.now, p.1)) l.names)) l.name
