-- Commands over a table that only gained.
use Rattle.std.proofs.Common.{◌≡◌, ◌∙◌, List, ap, refl}
use Rattle.std.proofs.lemmas.List.Elements.{All-weaker}
use Rattle.smt_values.specs.SortIds.{is_free}
use Rattle.term_table.specs.Formulas.{Formulas}
use Rattle.term_walk.specs.Walking.{GrowsTo}
use Rattle.script_read.specs.declared.scripts.Command.{Command}
use Rattle.script_read.specs.declared.scripts.Command.TheVariants.{Passed, DeclareSort, Declare, Assert, Check, CheckAssuming, Push, Pop, Reset, ResetAssertions, Globals, Exit}
use Rattle.script_read.specs.CommandLists.{free_name, command_of, commands_of, IsCommandOf, AreCommandsOf}
use Rattle.script_read.specs.Commands.{declare_sort, declare, assert, check_assuming}
use Rattle.script_terms.proofs.Grown.{same_map, node_stays, tree_stays, nodes_stay, trees_stay, symbol_within, symbol_stays, sort_within, sort_stays}

module _ (t u : Formulas) (grows : GrowsTo t u) where
  pub command_within : (c : Command) → IsCommandOf t c → IsCommandOf u c
  command_within (Passed text) is = tt
  command_within (DeclareSort s) is = (sort_within t.sorts u.sorts grows.sorts s is.0, ap is_free (sort_stays t.sorts u.sorts grows.sorts s is.0) ∙ is.1)
  command_within (Declare f) is = symbol_within t u grows f is
  command_within (Assert id number) is = node_stays t u grows id is
  command_within Check is = tt
  command_within (CheckAssuming ids) is = nodes_stay t u grows ids is
  command_within (Push n) is = tt
  command_within (Pop n) is = tt
  command_within Reset is = tt
  command_within ResetAssertions is = tt
  command_within (Globals b) is = tt
  command_within Exit is = tt

  pub command_stays : (c : Command) → IsCommandOf t c → command_of u c ≡ command_of t c
  command_stays (Passed text) is = refl
  command_stays (DeclareSort s) is = ap (λ to. declare_sort (free_name to)) (sort_stays t.sorts u.sorts grows.sorts s is.0)
  command_stays (Declare f) is = ap declare (symbol_stays t u grows f is)
  command_stays (Assert id number) is = ap (assert number) (tree_stays t u grows id is)
  command_stays Check is = refl
  command_stays (CheckAssuming ids) is = ap check_assuming (trees_stay t u grows ids is)
  command_stays (Push n) is = refl
  command_stays (Pop n) is = refl
  command_stays Reset is = refl
  command_stays ResetAssertions is = refl
  command_stays (Globals b) is = refl
  command_stays Exit is = refl

  pub commands_within : (cs : List Command) → AreCommandsOf t cs → AreCommandsOf u cs
  commands_within cs are = All-weaker (IsCommandOf t) (IsCommandOf u) command_within cs are

  pub commands_stay : (cs : List Command) → AreCommandsOf t cs → commands_of u cs ≡ commands_of t cs
  commands_stay cs are = same_map (command_of u) (command_of t) cs (All-weaker (IsCommandOf t) (λ c. command_of u c ≡ command_of t c) command_stays cs are)
