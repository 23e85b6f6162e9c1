-- How many bits a modulus by signs has.
use Rattle.std.proofs.Common.{◌≡◌, List, length, sym, ◌∙◌}
use Rattle.smt_terms.specs.Term.{Term}
use Rattle.bit_blast.specs.Blasted.{term_gates}
use Rattle.bit_blast.specs.Circuits.{inverse, both, sum}
use Rattle.bit_blast.specs.Signs.{divisor_negative, some_negative, by_signs}
use Rattle.bit_blast.proofs.CircuitLengths.{length-chosen, length-sum}

module _ (s t : Term) (us ws vs : List Term) (same : length us ≡ length vs) (as_wide : length ws ≡ length vs) where
  pub length-divisor_negative : length (divisor_negative s t us ws vs) ≡ length vs
  length-divisor_negative =
      let total = length-sum term_gates us vs same in
      length-chosen term_gates (both term_gates (inverse term_gates s) t) (sum term_gates us vs) ws (total ∙ same ∙ sym as_wide) ∙ total ∙ same

  pub length-some_negative : length (some_negative s t us ws vs) ≡ length vs
  length-some_negative =
      let total = length-sum term_gates ws vs as_wide in
      length-chosen term_gates (both term_gates s (inverse term_gates t)) (sum term_gates ws vs) (divisor_negative s t us ws vs) (total ∙ as_wide ∙ sym length-divisor_negative) ∙ total ∙ as_wide

  pub length-by_signs : length (by_signs s t us ws vs) ≡ length vs
  length-by_signs = length-chosen term_gates (both term_gates (inverse term_gates s) (inverse term_gates t)) us (some_negative s t us ws vs) (same ∙ sym length-some_negative) ∙ same
