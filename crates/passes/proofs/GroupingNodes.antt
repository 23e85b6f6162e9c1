-- The commands of a group over the nodes of a table.
use Rattle.std.proofs.Common.{◌≡◌, ◌∙◌, ap, refl, ℕ, List, [], ◌∷◌, ◌++◌, map}
use Rattle.std.proofs.lemmas.List.{map-append}
use Rattle.std.proofs.lemmas.List.Elements.{All-append, All-map, All-weaker}
use Rattle.smt_terms.specs.declared.ids.NodeId.{NodeId}
use Rattle.smt_terms.specs.declared.ids.SymId.{SymId}
use Rattle.smt_terms.specs.Groups.{Group}
use Rattle.term_table.specs.Formulas.{Formulas, tree, symbol_at, trees_at, IsNode, IsSymbol}
use Rattle.term_subst.specs.declared.maps.Group.{Group as NodeGroup}
use Rattle.term_groups.specs.Seen.{named_at, IsGroup}
use Rattle.script_read.specs.declared.scripts.Command.TheVariants.{Declare, Assert}
use Rattle.script_read.specs.CommandLists.{command_of, commands_of, IsCommandOf, AreCommandsOf}
use Rattle.script_read.specs.Commands.{declare, assert}
use Rattle.pass_laws.specs.Groups.{node_commands}
use Rattle.pass_laws.specs.Passed.{group_commands}

module _ (t : Formulas) where
  declared_so : (ps : List (SymId × NodeId)) → commands_of t (map (λ p. Declare p.0) ps) ≡ map (λ n. declare n.0) (named_at t ps)
  declared_so [] = refl
  declared_so (p ∷ ps) = ap (λ cs. declare (symbol_at t p.0) ∷ cs) (declared_so ps)

  asserted_so : (number : ℕ) (ks : List NodeId) → commands_of t (map (λ k. Assert k number) ks) ≡ map (assert number) (trees_at t ks)
  asserted_so number [] = refl
  asserted_so number (k ∷ ks) = ap (λ cs. assert number (tree t k) ∷ cs) (asserted_so number ks)

  module _ (number : ℕ) (n : NodeGroup) (g : Group) (is : IsGroup t n g) where
    pub group_commands_so : commands_of t (node_commands number n) ≡ group_commands number g
    group_commands_so =
        map-append (command_of t) (map (λ p. Declare p.0) n.symbols) (map (λ k. Assert k number) n.asserts)
        ∙ (λ j. (declared_so n.symbols ∙ ap (λ ps. map (λ p. declare p.0) ps) is.symbols) j ++ (asserted_so number n.asserts ∙ ap (map (assert number)) is.asserts) j)

    pub group_commands_within : AreCommandsOf t (node_commands number n)
    group_commands_within =
        All-append (IsCommandOf t) (map (λ p. Declare p.0) n.symbols) (map (λ k. Assert k number) n.asserts)
        (All-map (IsCommandOf t) (λ p. Declare p.0) n.symbols (All-weaker (λ p. IsSymbol t p.0 × IsNode t p.1) (λ p. IsSymbol t p.0) (λ p both. both.0) n.symbols is.pairs))
        (All-map (IsCommandOf t) (λ k. Assert k number) n.asserts is.nodes)
