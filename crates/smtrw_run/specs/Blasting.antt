-- A check of a script behind passes as a script over truth values, and the way back from it.
use Rattle.std.specs.Prelude.{◌≡◌, ℕ, List, None}
use Rattle.model_texts.specs.Proper.{IsProper}
use Rattle.pass_laws.specs.declared.names.Pass.{Pass}
use Rattle.bit_scripts.specs.Bits.{AreBitsOf}
use Rattle.bit_scripts.specs.Laws.{IsBlasted}
use Rattle.bit_scripts.specs.Nodes.{IsBlastingOf}
use Rattle.bit_scripts.specs.Scripts.{new_bits}
use Rattle.smtrw_answers.specs.declared.words.Carried.{Carried}
use Rattle.smtrw_answers.specs.Asked.{numbered}
use Rattle.smtrw_answers.specs.Blasting.{names_behind, blasted_commands, blasted_text, signature_blasted, IsBlasting}
use Rattle.smtrw_answers.specs.Carrying.{signature_behind}
use Rattle.smtrw_answers.specs.Endings.{blasting_end}
use Rattle.smtrw_answers.specs.Outputs.{rewritten_commands}
use Rattle.smtrw_answers.specs.Words.{Asked, unblast}
use Rattle.smtrw_run.specs.declared.blasting.BlastedWay.{BlastedWay}
use Rattle.smtrw_run.specs.Carrying.{IsWay}

-- what is asked for
abbrev pub unblasting : Carried → Asked
unblasting c = unblast c.passes c.check (numbered c.script) (numbered c.model)

-- nothing in the script b ends the run before the model's text; the way leads over the passes from its commands, and the script over
-- truth values takes the place of its check k behind them
pub record IsBlastedWay (b : List ℕ) (ps : List Pass) (k : ℕ) (w : BlastedWay) : Type 0 where
  pub way : IsWay b ps k w.way
  pub fine : blasting_end b ps k ≡ None
  pub blasting : IsBlastingOf w.way.table (rewritten_commands b ps) k (names_behind b ps) w.blasting
  pub blasted : IsBlasted (rewritten_commands b ps) k (names_behind b ps) (blasted_commands b ps k)
  pub bits : AreBitsOf (signature_behind b ps k).symbols (new_bits (rewritten_commands b ps) k (names_behind b ps))
  pub proper : IsProper (signature_blasted b ps k)
  pub promise : IsBlasting b ps k (blasted_text b ps k)

-- it is the one of some script
abbrev pub IsBlastedWayOfSome : List Pass → ℕ → BlastedWay → Type 0
IsBlastedWayOfSome ps k w = (b : List ℕ) × IsBlastedWay b ps k w
