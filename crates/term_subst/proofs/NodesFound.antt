-- What is found of nodes is read and put by their numbers.
use Rattle.std.proofs.Common.{◌≡◌, ℕ, ◌==◌, Bool, true, false, cond, if◌then◌else◌, List, [], ◌∷◌, Option, Some, refl, ap, sym, ◌∙◌}
use Rattle.std.specs.Map.{lookup}
use Rattle.std.proofs.lemmas.Bool.Decides.{Decides-eqb}
use Rattle.indexmap.specs.IndexMap.{insert_entry}
use Rattle.smt_terms.specs.declared.ids.NodeId.{NodeId}
use Rattle.smt_terms.specs.contracts.ids.NodeIdPartialEq.TheImpl.{ghosts}
use Rattle.term_subst.specs.ByNode.{found_in}

module _ {T : Type 0} where
  apart : (s k e : ℕ) (a b v : Option T) → (k ≡ e → ⊥) → (if s == e then a else (if s == k then v else b)) ≡ (if s == k then v else (if s == e then a else b))
  apart s k e a b v differ = by (s == e) (s == k) refl refl
    where
      by : (p q : Bool) → (s == e) ≡ p → (s == k) ≡ q → (if p then a else (if q then v else b)) ≡ (if q then v else (if p then a else b))
      by true true h g = absurd (differ (sym ((Decides-eqb s k).0 g) ∙ (Decides-eqb s e).0 h))
      by true false h g = refl
      by false q h g = refl

  replaced : (b : Bool) (u a v : Option T) → (if b then v else u) ≡ (if b then v else (if b then a else u))
  replaced true u a v = refl
  replaced false u a v = refl

  pub found_in-insert : (es : List (NodeId × T)) (k : NodeId) (v : T) (n : NodeId) → found_in (insert_entry ghosts.eq es k v) n ≡ (if n.0 == k.0 then Some v else found_in es n)
  found_in-insert [] k v n = refl
  found_in-insert (e ∷ es) k v n = by (found_in-insert es k v n) (k.0 == e.0.0) refl
    where
      by : found_in (insert_entry ghosts.eq es k v) n ≡ (if n.0 == k.0 then Some v else found_in es n) → (b : Bool) → (k.0 == e.0.0) ≡ b
          → found_in (if◌then◌else◌ {A = List (NodeId × T)} b ((e.0, v) ∷ es) (e ∷ insert_entry ghosts.eq es k v)) n ≡ (if n.0 == k.0 then Some v else (if n.0 == e.0.0 then Some e.1 else found_in es n))
      by rest true h =
          let same : k.0 ≡ e.0.0 = (Decides-eqb k.0 e.0.0).0 h in
          replaced (n.0 == e.0.0) (found_in es n) (Some e.1) (Some v) ∙ ap (λ i. if n.0 == i then Some v else (if n.0 == e.0.0 then Some e.1 else found_in es n)) (sym same)
      by rest false h =
          ap (λ (o : Option T). if n.0 == e.0.0 then Some e.1 else o) rest
          ∙ apart n.0 k.0 e.0.0 (Some e.1) (found_in es n) (Some v) (λ g. let d = (Decides-eqb k.0 e.0.0).1 g in cc)

  pub found_in-lookup : (es : List (NodeId × T)) (n : NodeId) → found_in es n ≡ lookup (ghosts.eq n) es
  found_in-lookup [] n = refl
  found_in-lookup (e ∷ es) n = by (found_in-lookup es n) (n.0 == e.0.0)
    where
      by : found_in es n ≡ lookup (ghosts.eq n) es → (b : Bool) → (if b then Some e.1 else found_in es n) ≡ cond {A = Option T} b (Some e.1) (lookup (ghosts.eq n) es)
      by rest true = refl
      by rest false = rest
