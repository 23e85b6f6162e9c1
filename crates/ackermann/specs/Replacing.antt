-- Constants in the places of applications: the live ones, and the new ones of an assertion.
use Rattle.std.specs.Prelude.{Bool, ◌&&◌, List, ◌++◌, is_none}
use Rattle.smt_terms.specs.Groups.{Named, constant_for}
use Rattle.smt_terms.specs.Term.{Term}
use Rattle.term_groups.specs.declared.constants.Constants.{Constants}
use Rattle.term_groups.specs.Replacing.{AreConstantsFor}
use Rattle.term_groups.specs.Seen.{named_at}
use Rattle.term_table.specs.Formulas.{Formulas}
use Rattle.ackermann.specs.declared.uses.LiveUse.{LiveUse}
use Rattle.ackermann.specs.LiveUses.{named_uses}
use Rattle.ackermann.specs.Removals.{is_use}

-- an application that has no constant
abbrev pub is_new_use : Named → Term → Bool
is_new_use ns t = is_use t && is_none (constant_for ns t)

-- new constants behind the live ones, each for its application alone, with its own node
abbrev pub AreNewConstants : Formulas → List LiveUse → Constants → Type 0
AreNewConstants t us c = AreConstantsFor t (is_new_use (named_uses t us)) c

-- all constants
abbrev pub all_named : Formulas → List LiveUse → Constants → Named
all_named t us c = named_uses t us ++ named_at t c.symbols
