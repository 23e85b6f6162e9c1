-- Statements of the laws of scripts over truth values.
use Rattle.std.specs.Prelude.{◌≡◌, ◌≤◌, ℕ, true, List, [], ◌∷◌, None, All, IsTrue}
use Rattle.smt_terms.specs.Fresh.{Supply}
use Rattle.smt_terms.specs.Models.{Model, IsModelOver}
use Rattle.smt_terms.specs.Term.{Term}
use Rattle.script_read.specs.Commands.{Command, checked, ended, kinds, signature, checks, all_asserted, all_assumed}
use Rattle.script_read.specs.Laws.{GivesNoNameOf}
use Rattle.script_read.specs.Printable.{printable}
use Rattle.script_read.specs.Satisfied.{sat}
use Rattle.bit_blast.specs.Laws.{is_boolean}
use Rattle.bit_scripts.specs.Bits.{AreBitsOf}
use Rattle.models.specs.LiveRoots.{is_flag}
use Rattle.bit_scripts.specs.Scripts.{new_bits, refused_root, blasted_script, lifted_model, lowered_model}

abbrev pub IsModelAt : List (Command Term) → ℕ → Model → Type 0
IsModelAt cs k m = IsModelOver (signature cs k).sorts (signature cs k).symbols m

-- The commands ds take the place of check k of the commands cs: they can be printed, have one check, and all that they declare and
-- assert is truth values. A model over what they declare, lifted, is one over what is declared at check k, a model over this,
-- lowered, is one over that, and each satisfies its commands where the other does.
pub record IsBlasted (cs : List (Command Term)) (k : ℕ) (s : Supply) (ds : List (Command Term)) : Type 0 where
  pub printable : IsTrue (printable ds)
  pub kinds : kinds ds ≡ checked ∷ ended ∷ []
  pub sorts : (signature ds 1).sorts ≡ []
  pub flags : All (λ f. is_flag f ≡ true) (signature ds 1).symbols
  pub boolean : All (λ t. is_boolean t ≡ true) (all_asserted ds)
  pub literals : all_assumed ds ≡ []
  pub lifts : (m : Model) → IsModelAt ds 1 m → IsModelAt cs k (lifted_model cs k s m) × (sat (lifted_model cs k s m) cs k ≡ sat m ds 1)
  pub lowers : (n : Model) → IsModelAt cs k n → IsModelAt ds 1 (lowered_model cs k s n) × (sat (lowered_model cs k s n) ds 1 ≡ sat n cs k)

abbrev pub ScriptsAreBlasted : Type 0
ScriptsAreBlasted = (cs : List (Command Term)) (k : ℕ) (s : Supply) → IsTrue (printable cs) → GivesNoNameOf s cs → 1 ≤ k → k ≤ checks cs → refused_root cs k ≡ None → IsBlasted cs k s (blasted_script cs k s)

-- The new constants of a check stand for the bits of constants that are declared there.
abbrev pub BlastedBitsAreLive : Type 0
BlastedBitsAreLive = (cs : List (Command Term)) (k : ℕ) (s : Supply) → IsTrue (printable cs) → GivesNoNameOf s cs → refused_root cs k ≡ None → AreBitsOf (signature cs k).symbols (new_bits cs k s)
