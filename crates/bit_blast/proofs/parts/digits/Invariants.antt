use Rattle.std.proofs.Common.{◌≡◌, ◌-◌, ◌++◌, map}
use Rattle.smt_terms.specs.BitVectors.{nat2bv}
use Rattle.bit_blast.proofs.BitParts.{digit}
use Rattle.bit_blast.proofs.parts.digits.Given as goal

abbrev pub invariant-loop : goal.invariant-loop
invariant-loop l = l.nodes.items ++ map (digit l.zero l.one) (nat2bv (l.width - l.counter) l.rest) ≡ map (digit l.zero l.one) (nat2bv l.width l.number)
