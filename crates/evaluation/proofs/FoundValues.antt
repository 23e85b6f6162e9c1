-- Values that were found are looked up by the numbers of nodes.
use Rattle.std.proofs.Common.{◌≡◌, ℕ, ◌<◌, ◌==◌, Bool, true, false, cond, if◌then◌else◌, inl, inr, List, [], ◌∷◌, ◌++◌, length, get_or, Option, Some, is_some, IsSome, refl, ap, sym, ◌∙◌, subst, arith, length-append}
use Rattle.std.specs.Map.{lookup}
use Rattle.std.proofs.Math.ListN.{get_or-append}
use Rattle.std.proofs.Math.Seq.{get_or-append_seam}
use Rattle.std.proofs.lemmas.List.{get_or_default}
use Rattle.std.proofs.lemmas.Bool.Decides.{eqb_tells}
use Rattle.smt_terms.specs.declared.ids.NodeId.{NodeId}
use Rattle.smt_terms.specs.contracts.ids.NodeIdPartialEq.TheImpl.{ghosts}
use Rattle.smt_terms.specs.Models.{Model}
use Rattle.smt_terms.specs.Val.{Env}
use Rattle.smt_values.specs.declared.value.Value.{Value}
use Rattle.term_table.specs.Formulas.{Formulas, tree, IsNode}
use Rattle.term_walk.specs.declared.kept.Place.{Place}
use Rattle.term_walk.specs.Places.{result_at}
use Rattle.quantifier_forms.proofs.Stands.{same-number, number-same}
use Rattle.evaluation.specs.Evaluated.{IsValueOf}
use Rattle.evaluation.specs.KeptValues.{Found, found_at, or_kept, known_at, AreHeld, AreFound, StayKnown}

pub found-lookup : (ps : Found) (k : NodeId) → found_at ps k ≡ lookup (ghosts.eq k) ps
found-lookup [] k = refl
found-lookup (p ∷ ps) k = by (found-lookup ps k) (k.0 == p.0.0)
  where
    by : found_at ps k ≡ lookup (ghosts.eq k) ps → (b : Bool) → (if b then Some p.1 else found_at ps k) ≡ cond {A = Option Value} b (Some p.1) (lookup (ghosts.eq k) ps)
    by rest true = refl
    by rest false = rest

-- one value more
module _ (old new : Found) (id : NodeId) (v : Value) (told : (q : NodeId) → lookup (ghosts.eq q) new ≡ cond {A = Option Value} (ghosts.eq id q) (Some v) (lookup (ghosts.eq q) old)) where
  given : (k : NodeId) (b : Bool) → (id.0 == k.0) ≡ b → found_at new k ≡ cond {A = Option Value} b (Some v) (found_at old k)
  given k b e = found-lookup new k ∙ told k ∙ (λ i. cond {A = Option Value} (e i) (Some v) (sym (found-lookup old k) i))

  pub given-here : found_at new id ≡ Some v
  given-here = given id true (number-same id.0 id.0 refl)

  pub given-others : (k : NodeId) → (k.0 ≡ id.0 → ⊥) → found_at new k ≡ found_at old k
  given-others k apart = by (id.0 == k.0) refl
    where
      by : (b : Bool) → (id.0 == k.0) ≡ b → found_at new k ≡ found_at old k
      by true e = absurd (apart (sym (same-number id.0 k.0 e)))
      by false e = given k false e

module _ (ks : List (Place Value)) (old new : Found) (id : NodeId) (v : Value) (here : found_at new id ≡ Some v) (others : (k : NodeId) → (k.0 ≡ id.0 → ⊥) → found_at new k ≡ found_at old k) where
  key : (k : NodeId) → k.0 ≡ id.0 → k ≡ id
  key k e = λ i. record { 0 = e i }

  known-here : known_at ks new id ≡ Some v
  known-here = ap (λ o. or_kept o (result_at ks id.0)) here

  known-other : (k : NodeId) → (k.0 ≡ id.0 → ⊥) → known_at ks new k ≡ known_at ks old k
  known-other k apart = ap (λ o. or_kept o (result_at ks k.0)) (others k apart)

  pub given-known : IsSome (known_at ks new id)
  given-known = ap is_some known-here

  pub given-stay : StayKnown ks old new
  given-stay k e = elim (eqb_tells k.0 id.0) [
    | inl same ↦ ap (λ j. is_some (known_at ks new j)) (key k same.1) ∙ given-known
    | inr apart ↦ ap is_some (known-other k apart.1) ∙ e
  ]

  pub given-found : (t : Formulas) (m : Model) (e : Env) → IsNode t id → IsValueOf m e (tree t id) v → AreFound t m e ks old → AreFound t m e ks new
  given-found t m e node value found k w known = elim (eqb_tells k.0 id.0) [
    | inl same ↦
        let one : Some v ≡ Some w = sym known-here ∙ ap (known_at ks new) (sym (key k same.1)) ∙ known in
        let is : v ≡ w = cc in
        subst (λ (j : NodeId). IsNode t j × IsValueOf m e (tree t j) w) (sym (key k same.1)) (node, subst (IsValueOf m e (tree t id)) is value)
    | inr apart ↦ found k w (sym (known-other k apart.1) ∙ known)
  ]

pub are-held : (t : Formulas) (m : Model) (e : Env) (ks : List (Place Value)) (ps : Found) → AreFound t m e ks ps → AreHeld ks ps
are-held t m e ks ps found k v known = (found k v known).1.held

pub none-found : (t : Formulas) (m : Model) (e : Env) → AreFound t m e [] []
none-found t m e k v known = absurd cc

-- one copy more
pub copies-more : (t : Formulas) (m : Model) (e : Env) (is : List NodeId) (vs : List Value) (v : Value) (n : ℕ) (d : NodeId) → length vs ≡ n → n < length is → ((i : ℕ) (c : NodeId) (w : Value) → i < length vs → IsValueOf m e (tree t (get_or is i c)) (get_or vs i w)) → IsValueOf m e (tree t (get_or is n d)) v
    → (i : ℕ) (c : NodeId) (w : Value) → i < length (vs ++ v ∷ []) → IsValueOf m e (tree t (get_or is i c)) (get_or (vs ++ v ∷ []) i w)
copies-more t m e is vs v n d count within each one i c w lt = elim (eqb_tells i n) [
  | inl same ↦
      let here : get_or (vs ++ v ∷ []) i w ≡ v = ap (λ j. get_or (vs ++ v ∷ []) j w) (same.1 ∙ sym count) ∙ get_or-append_seam vs v [] w in
      let node : get_or is i c ≡ get_or is n d = ap (λ j. get_or is j c) same.1 ∙ get_or_default is n c d within in
      subst (λ (k : NodeId). IsValueOf m e (tree t k) (get_or (vs ++ v ∷ []) i w)) (sym node) (subst (IsValueOf m e (tree t (get_or is n d))) (sym here) one)
  | inr apart ↦
      let long = length-append vs (v ∷ []) in
      let a = apart.1 in
      let before : i < length vs = omega (arith, long, a, count, lt) in
      subst (IsValueOf m e (tree t (get_or is i c))) (sym (get_or-append vs (v ∷ []) w i before)) (each i c w before)
]
