-- Which commands of a list hold terms.
use Rattle.std.specs.Prelude.{Bool, true, false}
use Rattle.script_read.specs.declared.scripts.Command.{Command}
use Rattle.script_read.specs.declared.scripts.Command.TheVariants.{Assert, CheckAssuming}

abbrev pub holds_terms : Command → Bool
holds_terms (Assert id number) = true
holds_terms (CheckAssuming literals) = true
holds_terms _ = false
