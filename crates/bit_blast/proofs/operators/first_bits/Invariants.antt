use Rattle.std.proofs.Common.{◌≡◌, map, take}
use Rattle.bit_blast.specs.OperandBits.{first_of}
use Rattle.bit_blast.proofs.operators.first_bits.Given as goal

abbrev pub invariant-loop-kid : goal.invariant-loop-kid
invariant-loop-kid l = l.bits.items ≡ map (first_of l.lists) (take l.kid-index l.kids)
