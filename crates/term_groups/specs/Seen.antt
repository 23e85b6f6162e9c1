-- A group over the nodes of a table, as a group of terms.
use Rattle.std.specs.Prelude.{◌≡◌, List, map, All}
use Rattle.smt_terms.specs.declared.ids.NodeId.{NodeId}
use Rattle.smt_terms.specs.declared.ids.SymId.{SymId}
use Rattle.smt_terms.specs.Groups.{Named, Group}
use Rattle.term_table.specs.Formulas.{Formulas, symbol_at, tree, trees_at, IsNode, IsSymbol, AreNodes}
use Rattle.term_subst.specs.declared.maps.Group.{Group as NodeGroup}

-- constants, each with the term that it stands for
abbrev pub named_at : Formulas → List (SymId × NodeId) → Named
named_at t ps = map (λ p. (symbol_at t p.0, tree t p.1)) ps

abbrev pub ArePairs : Formulas → List (SymId × NodeId) → Type 0
ArePairs t ps = All (λ p. IsSymbol t p.0 × IsNode t p.1) ps

-- the group over these nodes is this one
pub record IsGroup (t : Formulas) (n : NodeGroup) (g : Group) : Type 0 where
  pub pairs : ArePairs t n.symbols
  pub nodes : AreNodes t n.asserts
  pub symbols : named_at t n.symbols ≡ g.symbols
  pub asserts : trees_at t n.asserts ≡ g.asserts
