-- Scripts over truth values as lists of commands over a table.
use Rattle.std.specs.Prelude.{◌≡◌, ℕ, List, Some, None}
use Rattle.smt_terms.specs.Fresh.{Supply}
use Rattle.smt_terms.specs.Term.{Term}
use Rattle.term_groups.specs.Seen.{named_at, ArePairs}
use Rattle.term_table.specs.Formulas.{Formulas}
use Rattle.script_read.specs.CommandLists.{commands_of, AreCommandsOf}
use Rattle.script_read.specs.Commands.{Command}
use Rattle.bit_scripts.specs.declared.scripts.Blasting.{Blasting}
use Rattle.bit_scripts.specs.declared.scripts.BlastScriptFault.{BlastScriptFault}
use Rattle.bit_scripts.specs.declared.scripts.BlastScriptFault.TheVariants.{NotBits, Memory}
use Rattle.bit_scripts.specs.Scripts.{new_bits, refused_root, blasted_script}

-- the script and the new constants of check k of the commands cs, with the supply of names
pub record IsBlastingOf (t : Formulas) (cs : List (Command Term)) (k : ℕ) (s : Supply) (b : Blasting) : Type 0 where
  pub numbers : AreCommandsOf t b.script.commands
  pub commands : commands_of t b.script.commands ≡ blasted_script cs k s
  pub pairs : ArePairs t b.bits
  pub bits : named_at t b.bits ≡ new_bits cs k s
  pub accepted : refused_root cs k ≡ None

-- memory may be wanting anywhere
abbrev pub IsRefusedBy : List (Command Term) → ℕ → BlastScriptFault → Type 0
IsRefusedBy cs k (NotBits assertion) = refused_root cs k ≡ Some assertion
IsRefusedBy cs k Memory = Unit {0}
