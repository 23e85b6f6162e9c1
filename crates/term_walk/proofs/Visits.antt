-- What a visit keeps through its turns.
use Rattle.std.proofs.Common.{◌≡◌, ◌≢◌, ℕ, suc, ◌+◌, ◌<◌, ◌≤◌, inl, inr, true, List, [], ◌∷◌, length, get_or, IsSome, Option, refl, ap, sym, ◌∙◌, subst, arith}
use Rattle.std.proofs.lemmas.Bool.Decides.{eqb_tells}
use Rattle.smt_terms.specs.declared.ids.NodeId.{NodeId}
use Rattle.smt_terms.specs.Groups.{has_term}
use Rattle.smt_terms.specs.Term.{Term}
use Rattle.term_table.specs.Formulas.{Formulas, no_tree, tree_in, tree, operands, IsNode, Grows}
use Rattle.term_walk.specs.declared.kept.Place.{Place}
use Rattle.term_walk.specs.declared.frames.Frame.{Frame}
use Rattle.term_walk.specs.Places.{result_at, is_closed_at}
use Rattle.term_walk.specs.Stacks.{Wait, IsReady, Leads, IsCounted, open_costs, looked_up}
use Rattle.term_walk.specs.Subterms.{subterms, is_subterm}
use Rattle.term_walk.specs.Walking.{GrowsTo, StayClosed, GainsUnder}
use Rattle.term_walk.proofs.Below.{itself, down}
use Rattle.term_walk.proofs.Costs.{is_counted, is_below, ready-costs}
use Rattle.term_walk.proofs.Members.{in_first}

pub grows-self : {X : Type 0} (xs : List X) → Grows xs xs
grows-self xs = record { longer = omega arith; same = λ i d lt. refl }

grows-on : {X : Type 0} (xs ys zs : List X) → Grows xs ys → Grows ys zs → Grows xs zs
grows-on xs ys zs g h =
    let longer = g.longer in
    let longer_still = h.longer in
    record { longer = omega arith; same = λ i d lt. h.same i d (omega arith) ∙ g.same i d lt }

pub table-grows : (s t u : Formulas) → GrowsTo s t → GrowsTo t u → GrowsTo s u
table-grows s t u g h = record {
  trees = grows-on s.trees t.trees u.trees g.trees h.trees;
  symbols = grows-on s.symbols t.symbols u.symbols g.symbols h.symbols;
  sorts = grows-on s.sorts t.sorts u.sorts g.sorts h.sorts;
}

-- the subterms of the root count
pub counted-subterms : (ts : List Term) (root : NodeId) → root.0 < length ts → IsCounted (subterms (tree_in ts root)) ts ts root
counted-subterms ts root lt = record { grows = grows-self ts; within = lt; whole = itself (tree_in ts root); down = down (tree_in ts root) }

module _ {T : Type 0} (ks : List (Place T)) (root : NodeId) (f : Frame) (fs : List Frame) where
  -- the frame is at a node below the root
  module _ (now : List Term) (wait : Wait now ks root f.id fs) where
    pub frame-below : f.id.0 ≤ root.0
    frame-below =
        let u = tree_in now root in
        is_below (subterms u) now ks now root (suc root.0) (omega arith) (λ k le. refl) (itself u) (down u) f.id fs wait

    pub frame-counted : (us : List Term) → has_term us (tree_in now root) ≡ true → ((u : Term) (i : ℕ) → has_term us u ≡ true → i < length (operands u) → has_term us (get_or (operands u) i no_tree) ≡ true) → has_term us (tree_in now f.id) ≡ true
    frame-counted us whole down_in = is_counted us now ks now root (suc root.0) (omega arith) (λ k le. refl) whole down_in f.id fs wait

  -- with the terms that the first nodes had
  module _ (us ts begun now : List Term) (counted : IsCounted us ts begun root) (grows : Grows begun now) (wait : Wait now ks root f.id fs) where
    same_tree : (k : NodeId) → k.0 ≤ root.0 → tree_in ts k ≡ tree_in now k
    same_tree k le =
        let within = counted.within in
        let longer = counted.grows.longer in
        sym (counted.grows.same k.0 no_tree (omega arith)) ∙ sym (grows.same k.0 no_tree (omega arith))

    whole_now : has_term us (tree_in now root) ≡ true
    whole_now =
        let within = counted.within in
        let longer = counted.grows.longer in
        ap (has_term us) (grows.same root.0 no_tree (omega arith)) ∙ counted.whole

    pub tree-counted : has_term us (tree_in ts f.id) ≡ true
    tree-counted = ap (has_term us) (same_tree f.id (frame-below now wait)) ∙ frame-counted now wait us whole_now counted.down

    pub tree-same : tree_in ts f.id ≡ tree_in now f.id
    tree-same = same_tree f.id (frame-below now wait)

    pub frame-within : f.id.0 < length ts
    frame-within = let le = frame-below now wait in let within = counted.within in omega arith

    pub looked-less : IsReady now ks f → f.next + looked_up fs < open_costs us ts ks (length ts)
    looked-less ready = ready-costs us ts ks now root (length ts) counted.within same_tree whole_now counted.down f fs ready wait

  -- ---- a turn at the frame

  pub top-frame : (ts : List Term) (s : List Frame) → Leads ts ks root s → s ≡ f ∷ fs → Leads ts ks root (f ∷ fs)
  top-frame ts s leads e = subst (Leads ts ks root) e leads

  pub closed-turn : (ts : List Term) (new : List (Place T)) → IsReady ts ks f → ((k : NodeId) → k.0 ≢ f.id.0 → is_closed_at new k.0 ≡ is_closed_at ks k.0) → StayClosed ks new
  closed-turn ts new ready others k e = elim (eqb_tells k.0 f.id.0) [
    | inl same ↦
        let closed : is_closed_at ks f.id.0 ≡ true = subst (λ (n : ℕ). is_closed_at ks n ≡ true) same.1 e in
        let unclosed = ready.frame.unclosed in
        absurd cc
    | inr apart ↦ others k apart.1 ∙ e
  ]

  pub gained-turn : (t now : Formulas) (old new : List (Place T)) → IsNode t root → GrowsTo t now → Wait now.trees ks root f.id fs → GainsUnder t root old ks → ((k : NodeId) → k.0 ≢ f.id.0 → result_at new k.0 ≡ result_at ks k.0) → GainsUnder t root old new
  gained-turn t now old new node grows wait gained others k none_before kept = elim (eqb_tells k.0 f.id.0) [
    | inl same ↦
        let le = frame-below now.trees wait in
        let at_frame : has_term (subterms (tree now root)) (tree now f.id) ≡ true = frame-counted now.trees wait (subterms (tree now root)) (itself (tree now root)) (down (tree now root)) in
        let root_same : tree now root ≡ tree t root = grows.trees.same root.0 no_tree node in
        let frame_same : tree now f.id ≡ tree t f.id = grows.trees.same f.id.0 no_tree (omega arith) in
        let P : Term → Term → Type 0 = λ r u. has_term (subterms r) u ≡ true in
        let at_begun : has_term (subterms (tree t root)) (tree t f.id) ≡ true = subst (λ (u : Term). P (tree t root) u) frame_same (subst (λ (r : Term). P r (tree now f.id)) root_same at_frame) in
        let number = same.1 in
        (omega arith, subst (λ (n : ℕ). is_subterm (tree t root ∷ []) (get_or t.trees n no_tree) ≡ true) (sym same.1) (in_first (subterms (tree t root)) [] (tree t f.id) at_begun))
    | inr apart ↦ gained k none_before (subst (λ (o : Option T). IsSome o) (others k apart.1) kept)
  ]
