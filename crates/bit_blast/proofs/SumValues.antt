-- Sums, differences and opposites of bits are those of the bit vectors.
use Rattle.bit_blast.proofs.CircuitStatements.{SumsAreRight}
use Rattle.bit_blast.proofs.SumNumbers.{sum-bits, difference-bits, opposite-bits}

pub sums : SumsAreRight
sums = ((λ us vs e some. sum-bits us vs e), (λ us vs e some. difference-bits us vs e), opposite-bits)
