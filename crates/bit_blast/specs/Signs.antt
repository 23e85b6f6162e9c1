-- A modulus that is not zero, by the signs s of the dividend and t of the divisor vs: us is the remainder of the magnitudes, and ws
-- its opposite.
use Rattle.std.specs.Prelude.{List}
use Rattle.smt_terms.specs.Term.{Term}
use Rattle.bit_blast.specs.Blasted.{term_gates}
use Rattle.bit_blast.specs.Circuits.{inverse, both, chosen, sum}

-- what is right where the divisor is negative
abbrev pub divisor_negative : Term → Term → List Term → List Term → List Term → List Term
divisor_negative s t us ws vs = chosen term_gates (both term_gates (inverse term_gates s) t) (sum term_gates us vs) ws

-- what is right where one of the numbers is negative
abbrev pub some_negative : Term → Term → List Term → List Term → List Term → List Term
some_negative s t us ws vs = chosen term_gates (both term_gates s (inverse term_gates t)) (sum term_gates ws vs) (divisor_negative s t us ws vs)

abbrev pub by_signs : Term → Term → List Term → List Term → List Term → List Term
by_signs s t us ws vs = chosen term_gates (both term_gates (inverse term_gates s) (inverse term_gates t)) us (some_negative s t us ws vs)
