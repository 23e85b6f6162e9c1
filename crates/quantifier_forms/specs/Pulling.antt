-- Quantifiers that go in front, over fresh names.
use Rattle.std.specs.Prelude.{◌≡◌, true, List, [], ◌∷◌, map, All}
use Rattle.smt_terms.specs.declared.ids.NodeId.{NodeId}
use Rattle.smt_terms.specs.Sorts.{Variable}
use Rattle.smt_terms.specs.Term.{Quantifier, Term, quantified}
use Rattle.smt_terms.specs.Fresh.{Supply}
use Rattle.smt_terms.specs.Rank.{are_bindable}
use Rattle.smt_terms.specs.Subst.{Renamed, renaming, subst}
use Rattle.term_table.specs.Formulas.{Formulas, trees_at, variable_of}
use Rattle.term_subst.specs.Maps.{Pairs}
use Rattle.term_subst.specs.State.{SameImages}
use Rattle.term_subst.specs.Substituting.{IsMap}
use Rattle.normal_forms.specs.Prenex.{Quantified, quantifiers, prenex_turns}
use Rattle.normal_forms.specs.Shape.{quantifier_seen}
use Rattle.quantifier_forms.specs.declared.pulling.Bound.{Bound}
use Rattle.quantifier_forms.specs.Variables.{AreVariables}

-- a fresh name for each of these variables, in order
abbrev pub all_fresh : List Variable → Supply → Renamed
all_fresh xs s = renaming (map (λ x. x.name) xs) xs [] s

-- the body of a quantified formula over fresh names, and the names that are left
abbrev pub fresh_body : Quantified → Supply → Term × Supply
fresh_body f s = subst (all_fresh f.variables s).map f.body (all_fresh f.variables s).names

-- the nodes of the new variables, and a map that says what the renaming's map says
pub record AreFresh (t : Formulas) (xs : List Variable) (ys : List NodeId) (ps : Pairs) (s left : Supply) : Type 0 where
  pub variables : AreVariables t ys (all_fresh xs s).variables
  pub map : IsMap t ps
  pub images : SameImages t ps (all_fresh xs s).map
  pub names : left ≡ (all_fresh xs s).names

-- ---- what stands in front

pub record Front : Type 0 where
  pub quantifier : Quantifier
  pub variables : List Variable

-- these quantifiers over a matrix, the first one outermost
abbrev pub behind_fronts : List Front → Term → Term
behind_fronts [] t = t
behind_fronts (f ∷ fs) t = quantified f.quantifier f.variables (behind_fronts fs t)

abbrev pub front_at : Formulas → Bound → Front
front_at t b = record { quantifier = quantifier_seen b.universal; variables = map variable_of (trees_at t b.variables.items) }

abbrev pub fronts_at : Formulas → List Bound → List Front
fronts_at t bs = map (front_at t) bs

-- a quantifier may stand over these variables
pub record IsFront (t : Formulas) (b : Bound) : Type 0 where
  pub are : AreVariables t b.variables.items (front_at t b).variables
  pub bindable : are_bindable (front_at t b).variables ≡ true

abbrev pub AreFronts : Formulas → List Bound → Type 0
AreFronts t bs = All (IsFront t) bs

-- as many turns as the matrix has quantifiers
abbrev pub all_turns : Term → Supply → Term × Supply
all_turns t s = prenex_turns (quantifiers t) t s
