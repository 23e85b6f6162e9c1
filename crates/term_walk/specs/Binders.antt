-- Which terms are quantified.
use Rattle.std.specs.Prelude.{Bool, true, false}
use Rattle.smt_terms.specs.Term.{Term, apply, quantified}

abbrev pub is_quantified : Term → Bool
is_quantified (apply h ts) = false
is_quantified (quantified q xs t) = true
