-- Why formulas aren't blasted.
use Rattle.std.specs.Prelude.{◌≡◌, ◌<◌, ℕ, true, false, List, length, get_or}
use Rattle.smt_terms.specs.Term.{Term}
use Rattle.term_table.specs.Formulas.{no_tree}
use Rattle.bit_blast.specs.declared.blasting.BlastFault.{BlastFault}
use Rattle.bit_blast.specs.declared.blasting.BlastFault.TheVariants.{NotBits, Memory}
use Rattle.bit_blast.specs.Blasted.{is_bits}

-- the root at this place isn't a formula of bits, and all before it are
pub record IsFirstFault (roots : List Term) (place : ℕ) : Type 0 where
  pub within : place < length roots
  pub here : is_bits (get_or roots place no_tree) ≡ false
  pub before : (i : ℕ) → i < place → is_bits (get_or roots i no_tree) ≡ true

-- memory may be wanting anywhere
abbrev pub IsFault : List Term → BlastFault → Type 0
IsFault roots (NotBits place) = IsFirstFault roots place
IsFault roots Memory = Unit {0}
