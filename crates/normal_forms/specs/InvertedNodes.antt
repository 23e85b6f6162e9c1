-- The and-inverter form of a formula as a node of a table.
use Rattle.std.specs.Prelude.{◌≡◌, Some}
use Rattle.std.proofs.Common.{◌∙◌}
use Rattle.smt_terms.specs.declared.ids.NodeId.{NodeId}
use Rattle.smt_terms.specs.Sorts.{bool}
use Rattle.smt_terms.specs.Rank.{sort_of}
use Rattle.smt_terms.specs.Term.{Term}
use Rattle.term_table.specs.Formulas.{Formulas, no_tree, tree}
use Rattle.term_walk.specs.Walking.{GrowsTo}
use Rattle.normal_forms.specs.Aig.{aig}
use Rattle.normal_forms.specs.Nodes.{IsFormula, formula_stays}

pub record IsInverted (t : Formulas) (u : Term) (k : NodeId) : Type 0 where
  pub formula : IsFormula t k
  pub term : tree t k ≡ aig u

-- the form of a term, where it is a formula
abbrev pub HasInverted : Formulas → Term → NodeId → Type 0
HasInverted t u k = sort_of u ≡ Some bool → IsInverted t u k

-- it stays as the table gains
pub inverted_stays : (old new : Formulas) (u : Term) (k : NodeId) → GrowsTo old new → HasInverted old u k → HasInverted new u k
inverted_stays old new u k grows has is =
    let f = has is in
    record {
      formula = formula_stays old new k grows f.formula;
      term = grows.trees.same k.0 no_tree f.formula.node ∙ f.term;
    }
