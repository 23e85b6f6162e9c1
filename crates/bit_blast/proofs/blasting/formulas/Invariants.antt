use Rattle.std.proofs.Common.{◌≡◌, map, take}
use Rattle.bit_blast.specs.Subterms.{first_bit}
use Rattle.bit_blast.proofs.blasting.formulas.Given as goal

abbrev pub invariant-loop-root : goal.invariant-loop-root
invariant-loop-root l = l.formulas ≡ map (first_bit l.lists) (take l.root-index l.roots)
