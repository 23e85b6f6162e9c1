-- The fault of a check whose live terms can't be blasted, by their places.
use Rattle.std.specs.Prelude.{ℕ, ◌<◌, List, map, length, get_or}
use Rattle.smt_terms.specs.declared.ids.NodeId.{NodeId}
use Rattle.bit_blast.specs.declared.blasting.BlastFault.{BlastFault}
use Rattle.bit_blast.specs.declared.blasting.BlastFault.TheVariants as blasting
use Rattle.bit_scripts.specs.declared.scripts.BlastScriptFault.{BlastScriptFault}
use Rattle.bit_scripts.specs.declared.scripts.BlastScriptFault.TheVariants.{NotBits, Memory}

-- one of these stands at the place
abbrev pub IsPlaceIn : List (NodeId × ℕ) → BlastFault → Type 0
IsPlaceIn ls (blasting.NotBits place) = place < length ls
IsPlaceIn ls blasting.Memory = Unit {0}

-- the fault with the number that stands at the place
abbrev pub fault_at : List (NodeId × ℕ) → BlastFault → BlastScriptFault
fault_at ls (blasting.NotBits place) = NotBits (get_or (map (λ l. l.1) ls) place 0)
fault_at ls blasting.Memory = Memory
