-- Formulas as nodes of a table.
use Rattle.std.specs.Prelude.{◌≡◌, Some}
use Rattle.std.proofs.Common.{ap, ◌∙◌, arith}
use Rattle.smt_terms.specs.declared.ids.NodeId.{NodeId}
use Rattle.smt_terms.specs.Sorts.{bool}
use Rattle.smt_terms.specs.Rank.{sort_of}
use Rattle.term_table.specs.Formulas.{Formulas, no_tree, tree, IsNode}
use Rattle.term_walk.specs.Walking.{GrowsTo}

-- a node of a formula
pub record IsFormula (t : Formulas) (k : NodeId) : Type 0 where
  pub node : IsNode t k
  pub sort : sort_of (tree t k) ≡ Some bool

-- a formula stays one as the table gains
pub formula_stays : (old new : Formulas) (k : NodeId) → GrowsTo old new → IsFormula old k → IsFormula new k
formula_stays old new k grows f =
    let node = f.node in
    let longer = grows.trees.longer in
    record { node = omega arith; sort = ap sort_of (grows.trees.same k.0 no_tree f.node) ∙ f.sort }
