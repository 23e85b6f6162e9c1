-- Nodes of whole numbers, and of bit vectors.
use Rattle.std.specs.Prelude.{◌≡◌, ℕ, Some}
use Rattle.smt_terms.specs.declared.ids.NodeId.{NodeId}
use Rattle.smt_terms.specs.Sorts.{int, bit_vector}
use Rattle.smt_terms.specs.Rank.{sort_of}
use Rattle.term_table.specs.Formulas.{Formulas, tree, IsNode}

pub record IsNumber (t : Formulas) (k : NodeId) : Type 0 where
  pub node : IsNode t k
  pub sort : sort_of (tree t k) ≡ Some int

pub record IsVector (t : Formulas) (k : NodeId) : Type 0 where
  pub node : IsNode t k
  pub width : ℕ
  pub sort : sort_of (tree t k) ≡ Some (bit_vector width)
