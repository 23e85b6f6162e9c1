-- A formula's connective part as nodes of a table, and the names of its connectives.
use Rattle.std.specs.Prelude.{◌≡◌, true, List, filter, length, All}
use Rattle.smt_terms.specs.declared.ids.NodeId.{NodeId}
use Rattle.term_table.specs.Formulas.{Formulas, tree, trees_at, AreNodes}
use Rattle.term_groups.specs.Parts.{AreParts, collected}
use Rattle.normal_forms.specs.Nodes.{IsFormula}
use Rattle.cnf_polarity.specs.Literals.{IsName}
use Rattle.cnf_polarity.specs.Shapes.{has_connective, is_named}

-- all parts, each once and behind its operands
pub record IsOrderOf (t : Formulas) (root : NodeId) (ks : List NodeId) : Type 0 where
  pub formulas : All (IsFormula t) ks
  pub parts : AreParts has_connective (tree t root) (trees_at t ks)
  pub reached : trees_at t ks ≡ collected has_connective (λ _. true) (tree t root)

-- those of them that get names, each with the name at its place
pub record AreNamed (t : Formulas) (order named names : List NodeId) : Type 0 where
  pub nodes : AreNodes t named
  pub terms : trees_at t named ≡ filter is_named (trees_at t order)
  pub each : All (IsName t) names
  pub number : length names ≡ length named
