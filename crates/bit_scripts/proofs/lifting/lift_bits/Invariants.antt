use Rattle.std.proofs.Common.{◌≡◌, ◌≤◌, length, drop}
use Rattle.models.specs.LiveNumbers.{signature_of}
use Rattle.models.specs.ModelView.{model_at, IsModelOf}
use Rattle.term_groups.specs.Seen.{named_at}
use Rattle.bit_scripts.proofs.LiftedBits.{lifting}
use Rattle.bit_scripts.proofs.lifting.lift_bits.Given as goal

abbrev pub invariant-loop-place : goal.invariant-loop-place
invariant-loop-place l = record {
  within : l.place ≤ length l.bits;
  model : model_at l.table l.made ≡ (lifting (signature_of l.table l.signature).symbols (model_at l.table l.model) (drop l.place (named_at l.table l.bits))).model;
  number : l.number ≡ (lifting (signature_of l.table l.signature).symbols (model_at l.table l.model) (drop l.place (named_at l.table l.bits))).number;
  numbers : IsModelOf l.table l.fn.made → IsModelOf l.table l.made;
}
