-- The value of a formula, or its fault, from the values of the nodes below it.
use Rattle.std.proofs.Common.{◌≡◌, Bool, true, inl, inr, All, List, [], IsSome, is_some, Err, ap}
use Rattle.smt_terms.specs.declared.ids.NodeId.{NodeId}
use Rattle.smt_terms.specs.Models.{Model}
use Rattle.smt_terms.specs.Term.{Term}
use Rattle.smt_terms.specs.Val.{no_variables}
use Rattle.smt_values.specs.declared.value.Value.{Value}
use Rattle.term_table.specs.Formulas.{Formulas, tree}
use Rattle.term_walk.specs.declared.kept.Place.{Place}
use Rattle.evaluation.specs.Evaluated.{breaks, Values}
use Rattle.evaluation.specs.KeptValues.{Found, known_at, KeepsValues, AreFound}
use Rattle.evaluation.specs.Orders.{Breaks, IsOrder}
use Rattle.evaluation.specs.declared.faults.ValueFault.{ValueFault}
use Rattle.evaluation.specs.declared.faults.ValueFault.TheVariants.{Beyond128, Memory}
use Rattle.evaluation.proofs.Breaking.{breaks-unfit}
use Rattle.evaluation.proofs.OrderLaws.{among}
use Rattle.evaluation.proofs.TakenValues.{kept-known}

pub kept-found : (t : Formulas) (m : Model) (ks : List (Place Value)) → KeepsValues t m ks → AreFound t m no_variables ks []
kept-found t m ks keeps k v known = (keeps.related.node k (ap is_some known), keeps.related.related k v known)

-- a node has a value where all that is below it has one
pub root-known : (t : Formulas) (ks : List (Place Value)) (ps : Found) (root : NodeId) (order : List NodeId) → IsOrder t ks root order → All (λ k. IsSome (known_at ks ps k)) order → IsSome (known_at ks ps root)
root-known t ks ps root order is all = elim is.root_too [
  | inl known ↦ kept-known ks ps root known
  | inr there ↦ among (λ k. IsSome (known_at ks ps k)) order root all there
]

-- where the terms that a test tells lead to numbers outside the range
pub fault-told : (t : Formulas) (m : Model) (u : Term) (test : Term → Bool) → ((v : Term) → test v ≡ true → breaks m v u no_variables ≡ true) → (f : ValueFault) → Breaks t test f → Values t m u (Err f)
fault-told t m u test leads (Beyond128 k) b =
    let there = leads (tree t k) b.1 in
    record { beyond = breaks-unfit m (tree t k) u no_variables there; node = b.0; breaks_there = there }
fault-told t m u test leads Memory b = tt
