-- Commands behind a pass that puts a group in the place of each assertion: the declarations of its new symbols, and then its
-- assertions, with the number of the one that they replace. Other commands stay.
use Rattle.std.specs.Prelude.{ℕ, List, [], ◌∷◌, ◌++◌, map, flat_map}
use Rattle.smt_terms.specs.Fresh.{Supply}
use Rattle.smt_terms.specs.Groups.{Grouped}
use Rattle.smt_terms.specs.Term.{Term}
use Rattle.ite_free.specs.Ite.{ite}
use Rattle.cnf_polarity.specs.Cnf.{cnf}
use Rattle.script_read.specs.declared.scripts.Command.{Command as NodeCommand}
use Rattle.script_read.specs.declared.scripts.Command.TheVariants.{Declare, Assert}
use Rattle.script_read.specs.Commands.{Command, with_asserted, assert}
use Rattle.term_subst.specs.declared.maps.Group.{Group as NodeGroup}
use Rattle.pass_laws.specs.declared.names.Pass.{Pass}
use Rattle.pass_laws.specs.declared.names.Pass.TheVariants.{Ite, Cnf}
use Rattle.pass_laws.specs.Passed.{Replacement, literal_kept, behind, alone, group_commands}

-- what takes the place of a term, and the names that are left
abbrev pub Making : Type 0
Making = Term → Supply → Grouped

-- of the passes that make groups so
abbrev pub making : Pass → Making
making Ite t s = ite t s
making Cnf t s = cnf t s
making _ t s = record { group = alone t; names = s }

abbrev pub replacement : ℕ → Term → Grouped → Replacement
replacement i t g = record { number = i; term = t; group = g.group }

-- each assertion with its group, from the first to the last
abbrev pub groups_from : Making → List (Command Term) → Supply → List (Command Replacement) × Supply
groups_from make [] s = ([], s)
groups_from make (assert i t ∷ cs) s = behind (assert i (replacement i t (make t s))) (groups_from make cs (make t s).names)
groups_from make (c ∷ cs) s = behind (with_asserted literal_kept c) (groups_from make cs s)

-- the commands that come of one
abbrev pub spelled : Command Replacement → List (Command Term)
spelled (assert i r) = group_commands i r.group
spelled c = with_asserted (λ r. r.term) c ∷ []

abbrev pub in_groups : Making → List (Command Term) → Supply → List (Command Term) × Supply
in_groups make cs s = (flat_map spelled (groups_from make cs s).0, (groups_from make cs s).1)

-- ---- the same over the nodes of a table

abbrev pub node_commands : ℕ → NodeGroup → List NodeCommand
node_commands i g = map (λ p. Declare p.0) g.symbols ++ map (λ k. Assert k i) g.asserts
