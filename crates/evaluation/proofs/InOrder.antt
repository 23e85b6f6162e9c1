-- Nodes that are valued one behind the other, in an order in which each stands behind its operands.
use Rattle.std.proofs.Common.{◌≡◌, ℕ, zero, suc, ◌+◌, ◌<◌, ◌≤◌, inl, inr, true, false, List, [], ◌∷◌, length, get_or, All, Option, Some, None, IsSome, refl, ap, sym, ◌∙◌, subst, arith}
use Rattle.std.proofs.lemmas.Bool.Decides.{eqb_tells}
use Rattle.std.proofs.lemmas.List.{get_or_default}
use Rattle.smt_terms.specs.declared.ids.NodeId.{NodeId}
use Rattle.smt_terms.specs.Models.{Model}
use Rattle.smt_terms.specs.Term.{Term, apply, quantified, none, ◌⨾◌, terms}
use Rattle.smt_terms.specs.Val.{Env, bits_bound, greatest_bound}
use Rattle.smt_values.specs.declared.value.Value.{Value}
use Rattle.term_table.specs.Formulas.{Formulas, tree, trees_at, operands}
use Rattle.term_walk.specs.declared.kept.Place.{Place}
use Rattle.term_walk.specs.Binders.{is_quantified}
use Rattle.term_walk.specs.Places.{result_at}
use Rattle.evaluation.specs.KeptValues.{Found, found_at, or_kept, known_at, AreKnown, StayKnown}
use Rattle.evaluation.specs.Orders.{AreBehind}
use Rattle.evaluation.proofs.OrderLaws.{among-taken}
use Rattle.evaluation.proofs.ValueLaws.{fit-operands}

-- ---- widths

pub bound-at : (t : Formulas) (ks : List NodeId) (i : ℕ) (d : NodeId) → i < length ks → bits_bound (tree t (get_or ks i d)) ≤ greatest_bound (terms (trees_at t ks))
bound-at t [] i d lt = absurd (omega arith)
bound-at t (k ∷ ks) zero d lt = omega arith
bound-at t (k ∷ ks) (suc i) d lt = let rest = bound-at t ks i d (omega arith) in omega (arith, rest)

pub bound-within : (t : Formulas) (ks : List NodeId) (n : ℕ) → All (λ k. bits_bound (tree t k) ≤ n) ks → greatest_bound (terms (trees_at t ks)) ≤ n
bound-within t [] n all = omega arith
bound-within t (k ∷ ks) n all =
    let first = all 0 k (omega arith) in
    let rest = bound-within t ks n (λ i d lt. all (suc i) d (omega arith)) in
    omega (arith, first, rest)

-- ---- operands

known-kept : (ks : List (Place Value)) (ps : Found) (k : NodeId) → IsSome (result_at ks k.0) → IsSome (known_at ks ps k)
known-kept ks ps k kept = by (found_at ps k)
  where
    by : (o : Option Value) → IsSome (or_kept o (result_at ks k.0))
    by (Some v) = refl
    by None = kept

-- what stands before has values, and so the operands of the next have values
pub operands-known : (t : Formulas) (ks : List (Place Value)) (ps : Found) (order : List NodeId) → AreBehind t ks order → (i : ℕ) (d : NodeId) → i < length order → ((j : ℕ) (c : NodeId) → j < i → IsSome (known_at ks ps (get_or order j c))) → AreKnown t ks ps (tree t (get_or order i d))
operands-known t ks ps order behind i d lt done k applied node has = elim (behind.each i d k lt applied node has) [
  | inl kept ↦ known-kept ks ps k kept
  | inr before ↦ among-taken (λ j. IsSome (known_at ks ps j)) order i k (omega arith) done before
]

-- one node more has a value
pub done-more : (ks : List (Place Value)) (old new : Found) (order : List NodeId) (n : ℕ) (d : NodeId) → n < length order → StayKnown ks old new → IsSome (known_at ks new (get_or order n d)) → ((i : ℕ) (c : NodeId) → i < n → IsSome (known_at ks old (get_or order i c))) → (i : ℕ) (c : NodeId) → i < n + 1 → IsSome (known_at ks new (get_or order i c))
done-more ks old new order n d within stay here done i c lt = elim (eqb_tells i n) [
  | inl same ↦ subst (λ (k : NodeId). IsSome (known_at ks new k)) (sym (ap (λ j. get_or order j c) same.1 ∙ get_or_default order n c d within)) here
  | inr apart ↦ (let a = apart.1 in stay (get_or order i c) (done i c (omega (arith, a))))
]

-- ---- nodes without operands

pub leaf-fits : (m : Model) (e : Env) (u : Term) → is_quantified u ≡ false → operands u ≡ [] → fit-operands m u e ≡ true
leaf-fits m e (quantified q xs b) plain none_there = absurd cc
leaf-fits m e (apply h none) plain none_there = refl
leaf-fits m e (apply h (t ⨾ ts)) plain none_there = absurd cc
