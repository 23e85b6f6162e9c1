-- A formula in the place of a quantified one, wherever that is reached through `and` and `or` alone.
use Rattle.std.specs.Prelude.{◌≡◌, ◌<◌, true, Some}
use Rattle.smt_terms.specs.declared.ids.NodeId.{NodeId}
use Rattle.smt_terms.specs.Groups.{has_term}
use Rattle.term_table.specs.Formulas.{Formulas, tree, operands, IsNode}
use Rattle.normal_forms.specs.Nodes.{IsFormula}
use Rattle.normal_forms.specs.Prenex.{replaced}
use Rattle.quantifier_forms.specs.declared.exchanging.Exchange.{Exchange}
use Rattle.quantifier_forms.specs.Memos.{Results, result_in, known_in}
use Rattle.quantifier_forms.specs.Reaching.{IsBinder, is_junction}

pub record IsExchange (t : Formulas) (e : Exchange) : Type 0 where
  pub from : IsBinder t e.from
  pub to : IsFormula t e.to

-- the node r is what the exchange makes of the node k
pub record IsExchanged (t : Formulas) (e : Exchange) (k r : NodeId) : Type 0 where
  pub node : IsNode t k
  pub result : IsNode t r
  pub term : tree t r ≡ replaced (tree t e.from) (tree t e.to) (tree t k)

abbrev pub AreExchanged : Formulas → Exchange → Results → Type 0
AreExchanged t e m = (k r : NodeId) → result_in m 0 k ≡ Some r → IsExchanged t e k r

-- the operands of an `and` or an `or` have results
abbrev pub AreOperandsExchanged : Formulas → Exchange → Results → NodeId → Type 0
AreOperandsExchanged t e m id = is_junction (tree t id) ≡ true → (k : NodeId) → k.0 < id.0 → has_term (operands (tree t id)) (tree t k) ≡ true → IsExchanged t e k (known_in m 0 k)
