-- The commands of a script over truth values, over the nodes of a table.
use Rattle.std.specs.Prelude.{ℕ, suc, List, [], ◌∷◌, ◌++◌, map}
use Rattle.smt_terms.specs.declared.ids.NodeId.{NodeId}
use Rattle.smt_terms.specs.declared.ids.SymId.{SymId}
use Rattle.term_subst.specs.declared.maps.Group.{Group}
use Rattle.script_read.specs.declared.scripts.Command.{Command}
use Rattle.script_read.specs.declared.scripts.Command.TheVariants.{Declare, Assert, Check}

abbrev pub declarations : List (SymId × NodeId) → List Command
declarations ps = map (λ p. Declare p.0) ps

-- the first with this number
abbrev pub assertions : ℕ → List NodeId → List Command
assertions i [] = []
assertions i (k ∷ ks) = Assert k i ∷ assertions (suc i) ks

-- behind the declarations of the truth values that are declared already
abbrev pub group_commands : Group → List Command
group_commands g = declarations g.symbols ++ assertions 1 g.asserts ++ Check ∷ []
