-- The two forms of a formula as nodes of a table.
use Rattle.std.specs.Prelude.{◌≡◌, ℕ, ◌<◌, List, length, get_or, Some, option_map}
use Rattle.std.proofs.Common.{◌∙◌}
use Rattle.smt_terms.specs.declared.ids.NodeId.{NodeId}
use Rattle.smt_terms.specs.Sorts.{bool}
use Rattle.smt_terms.specs.Rank.{sort_of}
use Rattle.smt_terms.specs.Term.{Term}
use Rattle.term_table.specs.Formulas.{Formulas, no_tree, tree}
use Rattle.term_walk.specs.declared.kept.Place.{Place}
use Rattle.term_walk.specs.Places.{result_at}
use Rattle.term_walk.specs.Walking.{GrowsTo}
use Rattle.normal_forms.specs.declared.node_forms.Forms.{Forms}
use Rattle.normal_forms.specs.Nnf.{nnf, nnf_not}
use Rattle.normal_forms.specs.Nodes.{IsFormula, formula_stays}

-- the two nodes that are kept
abbrev pub positive_of : Forms → NodeId
positive_of r = record { 0 = r.positive }

abbrev pub negative_of : Forms → NodeId
negative_of r = record { 0 = r.negative }

pub record AreForms (t : Formulas) (u : Term) (r : Forms) : Type 0 where
  pub positive : IsFormula t (positive_of r)
  pub negative : IsFormula t (negative_of r)
  pub yes : tree t (positive_of r) ≡ nnf u
  pub no : tree t (negative_of r) ≡ nnf_not u

-- the forms of a term, where it is a formula
abbrev pub HasForms : Formulas → Term → Forms → Type 0
HasForms t u r = sort_of u ≡ Some bool → AreForms t u r

-- they stay as the table gains
pub forms_stay : (old new : Formulas) (u : Term) (r : Forms) → GrowsTo old new → HasForms old u r → HasForms new u r
forms_stay old new u r grows has is =
    let f = has is in
    record {
      positive = formula_stays old new (positive_of r) grows f.positive;
      negative = formula_stays old new (negative_of r) grows f.negative;
      yes = grows.trees.same (positive_of r).0 no_tree f.positive.node ∙ f.yes;
      no = grows.trees.same (negative_of r).0 no_tree f.negative.node ∙ f.no;
    }

-- parts of the results of these nodes, one for each
pub record AreTaken (part : Forms → NodeId) (ks : List (Place Forms)) (kids ids : List NodeId) : Type 0 where
  pub number : length ids ≡ length kids
  pub each : (i : ℕ) (d : NodeId) → i < length kids → option_map part (result_at ks (get_or kids i d).0) ≡ Some (get_or ids i d)
