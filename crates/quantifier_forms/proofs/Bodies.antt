-- A quantified node: its variables and its body.
use Rattle.std.proofs.Common.{◌≡◌, ◌-◌, ◌<◌, true, List, [], ◌∷◌, ◌++◌, length, map, get_or, take, All, Some, is_some, refl, ap, sym, ◌∙◌, subst, arith}
use Rattle.smt_terms.specs.declared.ids.NodeId.{NodeId}
use Rattle.smt_terms.specs.Groups.{has_term}
use Rattle.smt_terms.specs.Rank.{sort_of, is_regular, IsWellSorted}
use Rattle.smt_terms.specs.Sorts.{bool}
use Rattle.smt_terms.specs.Term.{Term, apply, quantified, variable}
use Rattle.smt_terms.proofs.Sorted.{quantified_sort}
use Rattle.smt_terms.proofs.Tests.{both_true, right_true}
use Rattle.term_table.specs.Formulas.{Formulas, tree, trees_at, operands, IsNode, AreNodes, IsTable}
use Rattle.term_table.proofs.Binding.{earlier_terms}
use Rattle.term_walk.proofs.Members.{has-append, has-one}
use Rattle.normal_forms.specs.Nodes.{IsFormula}
use Rattle.normal_forms.specs.Shape.{variables_of, body_in}
use Rattle.term_walk.specs.Binders.{is_quantified}
use Rattle.normal_forms.proofs.Bound.{quantified-operands, kids_number}
use Rattle.quantifier_forms.proofs.Rebuilt.{some-sort}
use Rattle.quantifier_forms.proofs.Sweeps.{taken-at}

-- ---- the body

pub body-among : (u : Term) → is_quantified u ≡ true → has_term (operands u) (body_in u) ≡ true
body-among (quantified q xs body) is = has-append (map variable xs) (body ∷ []) body ∙ right_true (has_term (map variable xs) body) (has_term (body ∷ []) body) (has-one body)
body-among (apply h ts) is = absurd cc

quantified-bool : (u : Term) → IsWellSorted u → is_quantified u ≡ true → sort_of u ≡ Some bool
quantified-bool (quantified q xs body) fine is =
    let sort = some-sort (sort_of (quantified q xs body)) (both_true (is_some (sort_of (quantified q xs body))) (is_regular (quantified q xs body)) fine).0 in
    sort.1 ∙ ap Some (quantified_sort q xs body sort.0 sort.1).sort
quantified-bool (apply h ts) fine is = absurd cc

pub quantified-formula : (t : Formulas) (k : NodeId) → IsTable t → IsNode t k → is_quantified (tree t k) ≡ true → IsFormula t k
quantified-formula t k table node is = record { node = node; sort = quantified-bool (tree t k) (table.sorted k.0 node) is }

pub body-bool : (u : Term) → is_quantified u ≡ true → sort_of u ≡ Some bool → sort_of (body_in u) ≡ Some bool
body-bool (quantified q xs body) is has = (quantified_sort q xs body bool has).body
body-bool (apply h ts) is has = absurd cc

-- ---- the variables

take-front : (us : List Term) (v : Term) → take (length us) (us ++ v ∷ []) ≡ us
take-front [] v = refl
take-front (u ∷ us) v = ap (λ vs. u ∷ vs) (take-front us v)

pub bound-variables : (t : Formulas) (u : Term) → is_quantified u ≡ true → (kids : List NodeId) → trees_at t kids ≡ operands u → trees_at t (take (length kids - 1) kids) ≡ map variable (variables_of u)
bound-variables t u is kids same =
    let n = kids_number t u is kids same in
    let last : length kids - 1 ≡ length (map variable (variables_of u)) = omega (arith, n) in
    sym (earlier_terms t kids (length kids - 1)) ∙ ap (take (length kids - 1)) (same ∙ quantified-operands u is) ∙ ap (λ i. take i (map variable (variables_of u) ++ body_in u ∷ [])) last ∙ take-front (map variable (variables_of u)) (body_in u)

pub kid-nodes : (t : Formulas) (id : NodeId) (kids : List NodeId) → IsNode t id → All (λ k. k.0 < id.0) kids → AreNodes t (take (length kids - 1) kids)
kid-nodes t id kids node below i d lt =
    let at = taken-at (length kids - 1) kids i d lt in
    let low : (get_or kids i d).0 < id.0 = below i d (let a = at.0 in omega arith) in
    subst (IsNode t) (sym at.1) (omega arith)
