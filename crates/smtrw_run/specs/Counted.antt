-- What is counted of a list of commands as the code holds them.
use Rattle.std.specs.Prelude.{ℕ, Bool, true, false, List, count_by, flat_map, [], ◌∷◌, ◌++◌, codes}
use Rattle.smt_terms.specs.declared.ids.NodeId.{NodeId}
use Rattle.script_read.specs.declared.scripts.Command.{Command}
use Rattle.script_read.specs.declared.scripts.Command.TheVariants.{Declare, Assert}
use Rattle.smtrw_answers.specs.Outputs.{count_line}
use Rattle.smtrw_run.specs.declared.counting.Numbers.{Numbers}

abbrev pub is_declaration : Command → Bool
is_declaration (Declare f) = true
is_declaration _ = false

abbrev pub declarations_in : List Command → ℕ
declarations_in cs = count_by is_declaration cs

abbrev pub asserted_by : Command → List NodeId
asserted_by (Assert id number) = id ∷ []
asserted_by _ = []

abbrev pub is_assertion : Command → Bool
is_assertion (Assert id number) = true
is_assertion _ = false

-- the formulas of the assertions
abbrev pub ids_of : List Command → List NodeId
ids_of cs = flat_map asserted_by cs

-- the lines of numbers
abbrev pub lines_of : Numbers → List ℕ
lines_of n =
    count_line (codes "commands") n.commands
    ++ count_line (codes "declarations") n.declarations
    ++ count_line (codes "assertions") n.assertions
    ++ count_line (codes "checks") n.checks
    ++ count_line (codes "nodes") n.nodes
