use Rattle.std.proofs.Common.{◌≡◌, map, take}
use Rattle.bit_blast.specs.OperandBits.{nodes_of}
use Rattle.bit_blast.proofs.operators.all_bits.Given as goal

abbrev pub invariant-loop-kid : goal.invariant-loop-kid
invariant-loop-kid l = map (λ v. v.now) l.vectors.items ≡ map (nodes_of l.lists) (take l.kid-index l.kids)
