-- Circuits over terms and over truth values keep what connectives keep.
use Rattle.std.proofs.Common.{Bool}
use Rattle.smt_terms.specs.Term.{Term}
use Rattle.bit_blast.specs.Blasted.{term_gates}
use Rattle.bit_blast.proofs.BitsRelated.{KeepsCircuits}
use Rattle.bit_blast.proofs.CircuitStatements.{Keep}
use Rattle.bit_blast.proofs.CircuitWidths.{circuits_have_widths}
use Rattle.bit_blast.proofs.KeptRelations.{circuits_keep}
use Rattle.bit_blast.proofs.TruthGates.{truth_gates}

pub keeps_circuits : (R : Term → Bool → Type 0) → Keep R term_gates truth_gates → KeepsCircuits R
keeps_circuits R keep = record {
  widths = circuits_have_widths Bool truth_gates;
  related = λ o ss s uss vss. circuits_keep Term Bool R term_gates truth_gates o ss s uss vss keep;
}
