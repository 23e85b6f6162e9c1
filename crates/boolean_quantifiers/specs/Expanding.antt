-- Shannon's expansion of nodes.
use Rattle.std.specs.Prelude.{◌≡◌, ◌<◌, true, Some}
use Rattle.smt_terms.specs.declared.ids.NodeId.{NodeId}
use Rattle.smt_terms.specs.Groups.{has_term}
use Rattle.term_table.specs.Formulas.{Formulas, tree, operands, IsNode}
use Rattle.normal_forms.specs.Quantifiers.{shannon}
use Rattle.quantifier_forms.specs.Memos.{Results, result_in, known_in}
use Rattle.quantifier_forms.specs.Rebuilding.{IsLike}

-- the node r is the expansion of the node k
pub record IsExpanded (t : Formulas) (k r : NodeId) : Type 0 where
  pub node : IsNode t k
  pub result : IsNode t r
  pub term : tree t r ≡ shannon (tree t k)
  pub like : IsLike (tree t k) (tree t r)

abbrev pub AreExpanded : Formulas → Results → Type 0
AreExpanded t m = (k r : NodeId) → result_in m 0 k ≡ Some r → IsExpanded t k r

-- the operands of a node have results
abbrev pub AreOperandsExpanded : Formulas → Results → NodeId → Type 0
AreOperandsExpanded t m id = (k : NodeId) → k.0 < id.0 → has_term (operands (tree t id)) (tree t k) ≡ true → IsExpanded t k (known_in m 0 k)
