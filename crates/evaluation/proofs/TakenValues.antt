-- Found values that are taken out, the last first.
use Rattle.std.proofs.Common.{◌≡◌, ◌≢◌, ◌==◌, inl, inr, Bool, true, false, cond, if◌then◌else◌, List, [], ◌∷◌, ◌++◌, Option, Some, None, IsSome, is_some, refl, ap, sym, ◌∙◌}
use Rattle.std.specs.Map.{lookup}
use Rattle.std.proofs.lemmas.Bool.Decides.{eqb_tells}
use Rattle.smt_terms.specs.declared.ids.NodeId.{NodeId}
use Rattle.smt_terms.specs.contracts.ids.NodeIdPartialEq.TheImpl.{ghosts}
use Rattle.smt_terms.specs.Models.{Model}
use Rattle.smt_terms.specs.Val.{Env}
use Rattle.smt_values.specs.declared.value.Value.{Value}
use Rattle.term_table.specs.Formulas.{Formulas, tree, IsNode}
use Rattle.term_walk.specs.declared.kept.Place.{Place}
use Rattle.term_walk.specs.Places.{result_at, Puts}
use Rattle.quantifier_forms.proofs.Stands.{same-number, number-same}
use Rattle.evaluation.specs.Evaluated.{IsValueOf}
use Rattle.evaluation.specs.KeptValues.{Found, found_at, or_kept, known_at, AreFound, StayKept}
use Rattle.evaluation.proofs.FoundValues.{found-lookup}

-- what was kept stays known
pub kept-known : (ks : List (Place Value)) (ps : Found) (k : NodeId) → IsSome (result_at ks k.0) → IsSome (known_at ks ps k)
kept-known ks ps k known = by (found_at ps k)
  where
    by : (o : Option Value) → IsSome (or_kept o (result_at ks k.0))
    by (Some v) = refl
    by None = known

found-last : (ps : Found) (k : NodeId) (v : Value) → found_at ps k ≡ None → found_at (ps ++ (k, v) ∷ []) k ≡ Some v
found-last [] k v e = ap (λ b. if b then Some v else None) (number-same k.0 k.0 refl)
found-last (p ∷ ps) k v e = by (found-last ps k v) (k.0 == p.0.0) e
  where
    by : (found_at ps k ≡ None → found_at (ps ++ (k, v) ∷ []) k ≡ Some v) → (b : Bool) → (if b then Some p.1 else found_at ps k) ≡ None → (if b then Some p.1 else found_at (ps ++ (k, v) ∷ []) k) ≡ Some v
    by later true here = absurd cc
    by later false none_there = later none_there

found-still : (ps qs : Found) (k : NodeId) (v : Value) → found_at ps k ≡ Some v → found_at (ps ++ qs) k ≡ Some v
found-still [] qs k v e = absurd cc
found-still (p ∷ ps) qs k v e = by (found-still ps qs k v) (k.0 == p.0.0) e
  where
    by : (found_at ps k ≡ Some v → found_at (ps ++ qs) k ≡ Some v) → (b : Bool) → (if b then Some p.1 else found_at ps k) ≡ Some v → (if b then Some p.1 else found_at (ps ++ qs) k) ≡ Some v
    by later true here = here
    by later false there = later there

module _ (old new : Found) (id : NodeId) (v : Value) (entries : old ≡ new ++ (id, v) ∷ []) (told : (q : NodeId) → lookup (ghosts.eq q) new ≡ cond {A = Option Value} (ghosts.eq id q) None (lookup (ghosts.eq q) old)) where
  taken-out : found_at new id ≡ None
  taken-out = found-lookup new id ∙ told id ∙ ap (λ b. cond {A = Option Value} b None (lookup (ghosts.eq id) old)) (number-same id.0 id.0 refl)

  pub taken-here : found_at old id ≡ Some v
  taken-here = ap (λ ps. found_at ps id) entries ∙ found-last new id v taken-out

  pub taken-before : (k : NodeId) (w : Value) → found_at new k ≡ Some w → found_at old k ≡ Some w
  taken-before k w e = ap (λ ps. found_at ps k) entries ∙ found-still new ((id, v) ∷ []) k w e

  -- and is kept
  module _ (kept next : List (Place Value)) (puts : Puts kept next id.0 v) where
    found-other : (k : NodeId) → k.0 ≢ id.0 → found_at new k ≡ found_at old k
    found-other k apart = by (id.0 == k.0) refl
      where
        by : (b : Bool) → (id.0 == k.0) ≡ b → found_at new k ≡ found_at old k
        by true e = absurd (apart (sym (same-number id.0 k.0 e)))
        by false e = found-lookup new k ∙ told k ∙ (λ i. cond {A = Option Value} (e i) None (sym (found-lookup old k) i))

    pub kept-stays : StayKept kept next
    kept-stays k known = elim (eqb_tells k.0 id.0) [
      | inl same ↦ ap (λ i. is_some (result_at next i)) same.1 ∙ ap is_some puts.here
      | inr apart ↦ ap is_some (puts.others k.0 apart.1) ∙ known
    ]

    pub taken-known : (k : NodeId) → IsSome (known_at kept old k) → IsSome (known_at next new k)
    taken-known k known = elim (eqb_tells k.0 id.0) [
      | inl same ↦ kept-known next new k (ap (λ i. is_some (result_at next i)) same.1 ∙ ap is_some puts.here)
      | inr apart ↦ (λ i. is_some (or_kept (found-other k apart.1 i) (puts.others k.0 apart.1 i))) ∙ known
    ]

-- a value that was found is that of its node
pub found-value : (t : Formulas) (m : Model) (e : Env) (ks : List (Place Value)) (ps : Found) → AreFound t m e ks ps → (k : NodeId) (v : Value) → found_at ps k ≡ Some v → IsNode t k × IsValueOf m e (tree t k) v
found-value t m e ks ps found k v told = found k v (ap (λ o. or_kept o (result_at ks k.0)) told)
