-- How a turn leads a stack on.
use Rattle.std.proofs.Common.{◌≡◌, ◌≢◌, ℕ, zero, suc, ◌+◌, ◌-◌, ◌<◌, ◌≤◌, inl, inr, ◌⊎◌, Bool, true, false, List, [], ◌∷◌, length, get_or, All, refl, ap, sym, ◌∙◌, subst, arith}
use Rattle.std.proofs.lemmas.List.{get_or_default}
use Rattle.std.proofs.lemmas.Bool.Decides.{eqb_tells}
use Rattle.smt_terms.specs.declared.ids.NodeId.{NodeId}
use Rattle.smt_terms.specs.Term.{Term}
use Rattle.term_table.specs.Formulas.{no_tree, tree_in, operands, Grows}
use Rattle.term_walk.specs.declared.kept.Place.{Place}
use Rattle.term_walk.specs.declared.frames.Frame.{Frame}
use Rattle.term_walk.specs.Places.{is_closed_at}
use Rattle.term_walk.specs.Walking.{HasClosed}
use Rattle.term_walk.specs.Stacks.{AreClosedBefore, IsOpen, IsWaiting, Wait, IsReady, Leads, first, advanced, looked}

last_or_before : (i m : ℕ) → i < m → (i < m - 1) ⊎ (i ≡ m - 1)
last_or_before zero (suc zero) lt = inr refl
last_or_before zero (suc (suc m)) lt = inl (omega arith)
last_or_before (suc i) zero lt = absurd (omega arith)
last_or_before (suc i) (suc zero) lt = absurd (omega arith)
last_or_before (suc i) (suc (suc m)) lt = elim (last_or_before i (suc m) (omega arith)) [
  | inl below ↦ inl (omega arith)
  | inr same ↦ inr (omega arith)
]
last_or_before zero zero lt = absurd (omega arith)

module _ {T : Type 0} where
  -- ---- the node id is closed, in a table that may have grown

  module _ (ts ts' : List Term) (ks ks' : List (Place T)) (id : NodeId) (grows : Grows ts ts') (node : id.0 < length ts) (here : is_closed_at ks' id.0 ≡ true) (others : (k : NodeId) → k.0 ≢ id.0 → is_closed_at ks' k.0 ≡ is_closed_at ks k.0) where
    within : (k : NodeId) → k.0 < length ts → k.0 < length ts'
    within k lt = let longer = grows.longer in omega arith

    same_tree : (k : NodeId) → k.0 < length ts → tree_in ts' k ≡ tree_in ts k
    same_tree k lt = grows.same k.0 no_tree lt

    pub still_closed : (k : NodeId) → is_closed_at ks k.0 ≡ true → is_closed_at ks' k.0 ≡ true
    still_closed k e = elim (eqb_tells k.0 id.0) [
      | inl same ↦ subst (λ (n : ℕ). is_closed_at ks' n ≡ true) (sym same.1) here
      | inr apart ↦ others k apart.1 ∙ e
    ]

    pub has_closed : (u : Term) → HasClosed ts ks u → HasClosed ts' ks' u
    has_closed u h = record {
      id = h.id;
      node = within h.id h.node;
      term = same_tree h.id h.node ∙ h.term;
      closed = still_closed h.id h.closed;
    }

    before-later : (u v : Term) (n : ℕ) → v ≡ u → AreClosedBefore ts ks (operands u) n → AreClosedBefore ts' ks' (operands v) n
    before-later u v n e h =
        let P : Term → Type 0 = λ w. AreClosedBefore ts' ks' (operands w) n in
        subst P (sym e) (λ i lt in_list. has_closed (get_or (operands u) i no_tree) (h i lt in_list))

    open-later : (f : Frame) → id.0 < f.id.0 → IsOpen ts ks f → IsOpen ts' ks' f
    open-later f lt h = record {
      node = within f.id h.node;
      unclosed = others f.id (λ e. omega arith) ∙ h.unclosed;
      next = subst (λ (u : Term). f.next ≤ length (operands u)) (sym (same_tree f.id h.node)) h.next;
    }

    waiting-later : (k : NodeId) (f : Frame) → id.0 ≤ k.0 → IsWaiting ts ks k f → IsWaiting ts' ks' k f
    waiting-later k f le h =
        let node = h.frame.node in
        let lt = h.below in
        let k_within : k.0 < length ts = omega arith in
        let same = same_tree f.id node in
        record {
          frame = open-later f (omega arith) h.frame;
          below = lt;
          some = h.some;
          operand = ap (λ u. get_or (operands u) (f.next - 1) no_tree) same ∙ h.operand ∙ sym (same_tree k k_within);
          before = before-later (tree_in ts f.id) (tree_in ts' f.id) (f.next - 1) same h.before;
        }

    wait-later : (root k : NodeId) (fs : List Frame) → id.0 ≤ k.0 → Wait ts ks root k fs → Wait ts' ks' root k fs
    wait-later root k [] le w = w
    wait-later root k (f ∷ fs) le w = let lt = w.0.below in (waiting-later k f le w.0, wait-later root f.id fs (omega arith) w.1)

    -- the frame that waited for it is ready
    ready-later : (f : Frame) → IsWaiting ts ks id f → IsReady ts' ks' f
    ready-later f h =
        let same = same_tree f.id h.frame.node in
        let us = operands (tree_in ts f.id) in
        let each : (i : ℕ) → i < f.next → i < length us → HasClosed ts' ks' (get_or us i no_tree) =
        λ i lt in_list. elim (last_or_before i f.next lt) [
          | inl below ↦ has_closed (get_or us i no_tree) (h.before i below in_list)
          | inr last ↦ record {
            id = id;
            node = within id node;
            term = same_tree id node ∙ sym h.operand ∙ ap (λ j. get_or us j no_tree) (sym last);
            closed = here;
          }
        ] in
        let P : Term → Type 0 = λ u. AreClosedBefore ts' ks' (operands u) f.next in
        record { frame = open-later f h.below h.frame; before = subst P (sym same) each }

    pub finish-leads : (root : NodeId) (fs : List Frame) → Wait ts ks root id fs → Leads ts' ks' root fs
    finish-leads root [] w = subst (λ (k : NodeId). is_closed_at ks' k.0 ≡ true) w here
    finish-leads root (f ∷ fs) w = let lt = w.0.below in (ready-later f w.0, wait-later root f.id fs (omega arith) w.1)

  -- ---- an operand is looked up

  module _ (ts : List Term) (ks : List (Place T)) (root : NodeId) (f : Frame) (fs : List Frame) (kid : NodeId) (ready : IsReady ts ks f) (wait : Wait ts ks root f.id fs) (below : kid.0 < f.id.0) (more : f.next < length (operands (tree_in ts f.id))) (term : tree_in ts kid ≡ get_or (operands (tree_in ts f.id)) f.next no_tree) where
    us : List Term
    us = operands (tree_in ts f.id)

    advanced-open : IsOpen ts ks (advanced f)
    advanced-open = record { node = ready.frame.node; unclosed = ready.frame.unclosed; next = omega arith }

    kid_within : kid.0 < length ts
    kid_within = let node = ready.frame.node in omega arith

    advanced-ready : is_closed_at ks kid.0 ≡ true → IsReady ts ks (advanced f)
    advanced-ready closed = record {
      frame = advanced-open;
      before = λ i lt in_list. elim (last_or_before i (f.next + 1) lt) [
        | inl before ↦ ready.before i (omega arith) in_list
        | inr last ↦ let same : f.next ≡ i = omega arith in record {
          id = kid;
          node = kid_within;
          term = term ∙ ap (λ j. get_or (operands (tree_in ts f.id)) j no_tree) same;
          closed = closed;
        }
      ];
    }

    first-ready : is_closed_at ks kid.0 ≡ false → IsReady ts ks (first kid)
    first-ready unclosed = record {
      frame = record { node = kid_within; unclosed = unclosed; next = omega arith };
      before = λ i lt in_list. absurd (omega arith);
    }

    advanced-waits : IsWaiting ts ks kid (advanced f)
    advanced-waits =
        let back : f.next ≡ f.next + 1 - 1 = omega arith in
        record {
          frame = advanced-open;
          below = below;
          some = omega arith;
          operand = ap (λ j. get_or (operands (tree_in ts f.id)) j no_tree) (sym back) ∙ sym term;
          before = subst (λ (n : ℕ). AreClosedBefore ts ks (operands (tree_in ts f.id)) n) back ready.before;
        }

    pub looked-leads : Leads ts ks root (looked (is_closed_at ks kid.0) kid f fs)
    looked-leads = by (is_closed_at ks kid.0) refl
      where
        by : (b : Bool) → is_closed_at ks kid.0 ≡ b → Leads ts ks root (looked b kid f fs)
        by true e = (advanced-ready e, wait)
        by false e = (first-ready e, (advanced-waits, wait))

  -- behind its last operand all operands of a frame are closed
  pub all_closed : (ts : List Term) (ks : List (Place T)) (f : Frame) → IsReady ts ks f → length (operands (tree_in ts f.id)) ≤ f.next → All (HasClosed ts ks) (operands (tree_in ts f.id))
  all_closed ts ks f ready none_left i d lt =
      let us = operands (tree_in ts f.id) in
      subst (HasClosed ts ks) (get_or_default us i no_tree d lt) (ready.before i (omega arith) lt)
