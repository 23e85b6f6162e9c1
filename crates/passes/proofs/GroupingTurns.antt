-- One command behind others, over the nodes of a table: itself, or the group in the place of an assertion.
use Rattle.std.proofs.Common.{◌≡◌, ◌∙◌, ap, sym, refl, subst, ℕ, List, [], ◌∷◌, ◌++◌}
use Rattle.std.proofs.lemmas.List.{map-append}
use Rattle.std.proofs.lemmas.List.Elements.{All-append, All-push}
use Rattle.smt_terms.specs.declared.ids.NodeId.{NodeId}
use Rattle.smt_terms.specs.Fresh.{Supply}
use Rattle.term_table.specs.Formulas.{Formulas, tree, trees_at}
use Rattle.term_subst.specs.declared.maps.Group.{Group as NodeGroup}
use Rattle.term_groups.specs.Seen.{IsGroup}
use Rattle.term_walk.specs.Walking.{GrowsTo}
use Rattle.script_read.specs.declared.scripts.Command.{Command}
use Rattle.script_read.specs.declared.scripts.Command.TheVariants.{Passed, DeclareSort, Declare, Assert, Check, CheckAssuming, Push, Pop, Reset, ResetAssertions, Globals, Exit}
use Rattle.script_read.specs.CommandLists.{command_of, commands_of, IsCommandOf, AreCommandsOf}
use Rattle.script_read.proofs.CommandsStay.{commands_within, commands_stay}
use Rattle.pass_laws.specs.Groups.{Making, in_groups, node_commands}
use Rattle.passes.proofs.GroupingLists.{grouped_assertion, grouped_check}
use Rattle.passes.proofs.GroupingNodes.{group_commands_so, group_commands_within}

abbrev IsOther : Command → Type 0
IsOther c = (id : NodeId) (number : ℕ) → c ≡ Assert id number → ⊥

-- a command that is no assertion stays
other_alone : (make : Making) (t : Formulas) (s : Supply) (c : Command) → IsOther c → in_groups make (command_of t c ∷ []) s ≡ (command_of t c ∷ [], s)
other_alone make t s (Passed text) other = refl
other_alone make t s (DeclareSort k) other = refl
other_alone make t s (Declare f) other = refl
other_alone make t s (Assert id number) other = absurd (other id number refl)
other_alone make t s Check other = refl
other_alone make t s (CheckAssuming ids) other = grouped_check make (trees_at t ids) s
other_alone make t s (Push n) other = refl
other_alone make t s (Pop n) other = refl
other_alone make t s Reset other = refl
other_alone make t s ResetAssertions other = refl
other_alone make t s (Globals b) other = refl
other_alone make t s Exit other = refl

-- with another command behind these
module _ (make : Making) (t : Formulas) (ks : List Command) (c : Command) (s : Supply) (js : List Command) (more : js ≡ ks ++ c ∷ []) where
  pub numbers_with_other : AreCommandsOf t ks → IsCommandOf t c → AreCommandsOf t js
  numbers_with_other are is = subst (AreCommandsOf t) (sym more) (All-push (IsCommandOf t) ks c are is)

  pub commands_with_other : IsOther c → commands_of t js ≡ commands_of t ks ++ (in_groups make (command_of t c ∷ []) s).0
  commands_with_other other =
      ap (commands_of t) more ∙ map-append (command_of t) ks (c ∷ [])
      ∙ ap (λ r. commands_of t ks ++ r.0) (sym (other_alone make t s c other))

pub left_with_other : (make : Making) (t : Formulas) (c : Command) (s : Supply) → IsOther c → s ≡ (in_groups make (command_of t c ∷ []) s).1
left_with_other make t c s other = ap (λ r. r.1) (sym (other_alone make t s c other))

-- with a group behind these, in a table that only gained
module _ (make : Making) (t u : Formulas) (grows : GrowsTo t u) (ks : List Command) (numbers : AreCommandsOf t ks)
    (id : NodeId) (number : ℕ) (s : Supply) (n : NodeGroup) (is : IsGroup u n (make (tree t id) s).group) where
  pub numbers_with_group : (js : List Command) → js ≡ ks ++ node_commands number n → AreCommandsOf u js
  numbers_with_group js more =
      subst (AreCommandsOf u) (sym more)
      (All-append (IsCommandOf u) ks (node_commands number n) (commands_within t u grows ks numbers) (group_commands_within u number n (make (tree t id) s).group is))

  pub commands_with_group : (js : List Command) → js ≡ ks ++ node_commands number n
      → (c : Command) → c ≡ Assert id number → commands_of u js ≡ commands_of t ks ++ (in_groups make (command_of t c ∷ []) s).0
  commands_with_group js more c assertion =
      ap (commands_of u) more ∙ map-append (command_of u) ks (node_commands number n)
      ∙ (λ j. commands_stay t u grows ks numbers j ++ group_commands_so u number n (make (tree t id) s).group is j)
      ∙ ap (λ r. commands_of t ks ++ r.0) (sym (grouped_assertion make number (tree t id) s))
      ∙ ap (λ d. commands_of t ks ++ (in_groups make (command_of t d ∷ []) s).0) (sym assertion)
