-- The assertion that a command is, as the code has it.
use Rattle.std.specs.Prelude.{ℕ, Option, Some, None}
use Rattle.smt_terms.specs.declared.ids.NodeId.{NodeId}
use Rattle.script_read.specs.declared.scripts.Command.{Command}
use Rattle.script_read.specs.declared.scripts.Command.TheVariants.{Assert}

abbrev pub assertion_of : Command → Option (NodeId × ℕ)
assertion_of (Assert id number) = Some (id, number)
assertion_of _ = None
