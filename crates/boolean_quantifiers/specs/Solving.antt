-- Self-substitution one term after the other, each behind its operands.
use Rattle.std.specs.Prelude.{◌≡◌, ℕ, ◌<◌, Bool, true, ◌&&◌, List, [], ◌∷◌, take, Some, is_some, unwrap_or}
use Rattle.smt_terms.specs.declared.ids.NodeId.{NodeId}
use Rattle.smt_terms.specs.Fresh.{Supply}
use Rattle.smt_terms.specs.Groups.{has_term}
use Rattle.smt_terms.specs.SubstLaws.{GivesNone, names_within}
use Rattle.smt_terms.specs.Term.{Term, apply, quantified, Terms, none, ◌⨾◌}
use Rattle.term_table.specs.Formulas.{Formulas, tree, trees_at, operands, IsNode}
use Rattle.normal_forms.specs.Quantifiers.{over_left, not_bool, substitute_each, Solved, Solving, solved_for, solve}
use Rattle.normal_forms.specs.Shape.{is_universally_quantified, quantifier_seen, variables_of}
use Rattle.quantifier_forms.specs.Memos.{Results, result_in, known_in}
use Rattle.quantifier_forms.specs.Rebuilding.{IsLike}

abbrev mutual
  -- whether the results tell what becomes of a term
  pub is_told : List Solved → Term → Bool
  is_told es (apply h ts) = are_told es ts
  is_told es (quantified q xs body) = is_some (solved_for es (quantified q xs body))

  pub are_told : List Solved → Terms → Bool
  are_told es none = true
  are_told es (t ⨾ ts) = is_told es t && are_told es ts

abbrev mutual
  -- what becomes of it
  pub told : List Solved → Term → Term
  told es (apply h ts) = apply h (told_each es ts)
  told es (quantified q xs body) = unwrap_or (solved_for es (quantified q xs body)) (quantified q xs body)

  pub told_each : List Solved → Terms → Terms
  told_each es none = none
  told_each es (t ⨾ ts) = told es t ⨾ told_each es ts

-- a term whose operands are told of: a quantified one is solved
abbrev pub step : Term → Solving → Solving
step (apply h ts) s = s
step (quantified q xs body) s = (solve (quantified q xs body) q xs (told s.solved body, s)).1

abbrev pub steps : List Term → Solving → Solving
steps [] s = s
steps (t ∷ ts) s = steps ts (step t s)

-- the result of a quantified term over this body, and the names that are left
abbrev pub solved_over : Term → Term → Supply → Term × Supply
solved_over u b s =
    let r : Term × Supply = substitute_each (quantifier_seen (is_universally_quantified u)) (variables_of u) (b, s) in
    (over_left (quantifier_seen (is_universally_quantified u)) (not_bool (variables_of u)) r.0, r.1)

-- ---- nodes

-- the node r may take the place of the node k, and the supply gives none of its names
pub record MayStand (t : Formulas) (left : Supply) (k r : NodeId) : Type 0 where
  pub node : IsNode t k
  pub result : IsNode t r
  pub like : IsLike (tree t k) (tree t r)
  pub spared : GivesNone left (names_within (tree t r))

abbrev pub AllMayStand : Formulas → Supply → Results → Type 0
AllMayStand t left m = (k r : NodeId) → result_in m 0 k ≡ Some r → MayStand t left k r

-- the node r is what is told of the node k
pub record IsTold (old new : Formulas) (es : List Solved) (k r : NodeId) : Type 0 where
  pub known : is_told es (tree old k) ≡ true
  pub term : tree new r ≡ told es (tree old k)

-- the results are those that are told
abbrev pub AreTold : Formulas → List Solved → Results → Type 0
AreTold t es m = (k r : NodeId) → result_in m 0 k ≡ Some r → IsTold t t es k r

-- the step for the node k gives it this result
pub record IsSolved (old new : Formulas) (s : Solving) (left : Supply) (k r : NodeId) : Type 0 where
  pub names : (step (tree old k) s).names ≡ left
  pub result : IsTold old new (step (tree old k) s).solved k r

-- the operands of a node have results
abbrev pub AreOperandsKnown : Formulas → Results → NodeId → Type 0
AreOperandsKnown t m id = (k : NodeId) → k.0 < id.0 → has_term (operands (tree t id)) (tree t k) ≡ true → result_in m 0 k ≡ Some (known_in m 0 k)

-- the state after the first n of these nodes
abbrev pub after : Formulas → Supply → List NodeId → ℕ → Solving
after t s ks n = steps (take n (trees_at t ks)) (record { names = s; solved = [] })
