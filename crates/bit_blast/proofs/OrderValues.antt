-- Comparisons of bits are those of the bit vectors.
use Rattle.bit_blast.proofs.CircuitStatements.{OrdersAreRight}
use Rattle.bit_blast.proofs.OrderNumbers.{equal-bits, less-number, not_less-number, signed_less-number, not_signed_less-number, top-sign}

pub orders : OrdersAreRight
orders = (
  (λ us vs e some. equal-bits us vs e),
  ((λ us vs e some. less-number us vs e), (λ us vs e some. not_less-number us vs e)),
  (signed_less-number, not_signed_less-number),
  top-sign,
)
