-- What closing nodes costs.
use Rattle.std.proofs.Common.{◌≡◌, ◌≢◌, ℕ, zero, suc, ◌+◌, ◌-◌, ◌<◌, ◌≤◌, inl, inr, true, false, cond, List, [], ◌∷◌, length, get_or, refl, ap, sym, ◌∙◌, subst, arith}
use Rattle.std.proofs.lemmas.Bool.Decides.{eqb_tells}
use Rattle.smt_terms.specs.declared.ids.NodeId.{NodeId}
use Rattle.smt_terms.specs.Groups.{has_term}
use Rattle.smt_terms.specs.Term.{Term}
use Rattle.term_table.specs.Formulas.{no_tree, tree_in, operands}
use Rattle.term_walk.specs.declared.kept.Place.{Place}
use Rattle.term_walk.specs.declared.frames.Frame.{Frame}
use Rattle.term_walk.specs.Places.{is_closed_at}
use Rattle.term_walk.specs.Stacks.{IsOpen, Wait, IsReady, open_cost, open_costs, looked_up}

module _ {T : Type 0} (us ts : List Term) where
  cost-closed : (ks : List (Place T)) (i : ℕ) → is_closed_at ks i ≡ true → open_cost us ts ks i ≡ 0
  cost-closed ks i e = ap (λ b. cond b 0 (cond (has_term us (get_or ts i no_tree)) (suc (length (operands (get_or ts i no_tree)))) 0)) e

  cost-open : (ks : List (Place T)) (i : ℕ) → is_closed_at ks i ≡ false → has_term us (get_or ts i no_tree) ≡ true → open_cost us ts ks i ≡ suc (length (operands (get_or ts i no_tree)))
  cost-open ks i e h =
      ap (λ b. cond b 0 (cond (has_term us (get_or ts i no_tree)) (suc (length (operands (get_or ts i no_tree)))) 0)) e
      ∙ ap (λ b. cond b (suc (length (operands (get_or ts i no_tree)))) 0) h

  cost-same : (ks ks' : List (Place T)) (i : ℕ) → is_closed_at ks' i ≡ is_closed_at ks i → open_cost us ts ks' i ≡ open_cost us ts ks i
  cost-same ks ks' i e = ap (λ b. cond b 0 (cond (has_term us (get_or ts i no_tree)) (suc (length (operands (get_or ts i no_tree)))) 0)) e

  -- ---- one node more is closed

  module _ (ks ks' : List (Place T)) (id : NodeId) (here : is_closed_at ks' id.0 ≡ true) (others : (k : NodeId) → k.0 ≢ id.0 → is_closed_at ks' k.0 ≡ is_closed_at ks k.0) where
    costs-same : (n : ℕ) → n ≤ id.0 → open_costs us ts ks' n ≡ open_costs us ts ks n
    costs-same zero le = refl
    costs-same (suc n) le =
        let below : open_costs us ts ks' n ≡ open_costs us ts ks n = costs-same n (omega arith) in
        let one : open_cost us ts ks' n ≡ open_cost us ts ks n = cost-same ks ks' n (others (record { 0 = n }) (λ e. omega arith)) in
        omega arith

    pub costs-closed : (n : ℕ) → id.0 < n → is_closed_at ks id.0 ≡ false → has_term us (tree_in ts id) ≡ true → open_costs us ts ks' n + suc (length (operands (tree_in ts id))) ≡ open_costs us ts ks n
    costs-closed zero lt e h = absurd (omega arith)
    costs-closed (suc n) lt e h = elim (eqb_tells n id.0) [
      | inl same ↦
          let P : ℕ → Type 0 = λ m. open_costs us ts ks' m + open_cost us ts ks' m + suc (length (operands (tree_in ts id))) ≡ open_costs us ts ks m + open_cost us ts ks m in
          subst P (sym same.1)
          (let below : open_costs us ts ks' id.0 ≡ open_costs us ts ks id.0 = costs-same id.0 (omega arith) in
          let after : open_cost us ts ks' id.0 ≡ 0 = cost-closed ks' id.0 here in
          let before : open_cost us ts ks id.0 ≡ suc (length (operands (tree_in ts id))) = cost-open ks id.0 e h in
          omega arith)
      | inr apart ↦
          let below = costs-closed n (let a = apart.1 in omega arith) e h in
          let one : open_cost us ts ks' n ≡ open_cost us ts ks n = cost-same ks ks' n (others (record { 0 = n }) apart.1) in
          omega arith
    ]

  -- ---- what was looked up is less than what open nodes cost

  module _ (ks : List (Place T)) where
    costs-le : (m n : ℕ) → m ≤ n → open_costs us ts ks m ≤ open_costs us ts ks n
    costs-le m zero le = let z : m ≡ 0 = omega arith in subst (λ (k : ℕ). open_costs us ts ks k ≤ 0) (sym z) (omega arith)
    costs-le m (suc n) le = elim (eqb_tells m (suc n)) [
      | inl same ↦ subst (λ (k : ℕ). open_costs us ts ks k ≤ open_costs us ts ks n + open_cost us ts ks n) (sym same.1) (omega arith)
      | inr apart ↦ let below = costs-le m n (let a = apart.1 in omega arith) in omega arith
    ]

    module _ (now : List Term) (root : NodeId) (n : ℕ) (lt : root.0 < n) (same : (k : NodeId) → k.0 ≤ root.0 → tree_in ts k ≡ tree_in now k) (whole : has_term us (tree_in now root) ≡ true) (down : (u : Term) (i : ℕ) → has_term us u ≡ true → i < length (operands u) → has_term us (get_or (operands u) i no_tree) ≡ true) where
      -- what waits stands for subterms of the root
      pub is_counted : (k : NodeId) (fs : List Frame) → Wait now ks root k fs → has_term us (tree_in now k) ≡ true
      is_counted k [] w = subst (λ (j : NodeId). has_term us (tree_in now j) ≡ true) (sym w) whole
      is_counted k (f ∷ fs) w =
          let some = w.0.some in
          let next = w.0.frame.next in
          subst (λ (u : Term). has_term us u ≡ true) w.0.operand (down (tree_in now f.id) (f.next - 1) (is_counted f.id fs w.1) (omega arith))

      pub is_below : (k : NodeId) (fs : List Frame) → Wait now ks root k fs → k.0 ≤ root.0
      is_below k [] w = subst (λ (j : NodeId). k.0 ≤ j.0) w (omega arith)
      is_below k (f ∷ fs) w = let lt = w.0.below in let le = is_below f.id fs w.1 in omega arith

      frame_cost : (f : Frame) (fs : List Frame) → IsOpen now ks f → Wait now ks root f.id fs → f.next < open_cost us ts ks f.id.0
      frame_cost f fs h w =
          let counted = is_counted f.id fs w in
          let e : tree_in ts f.id ≡ tree_in now f.id = same f.id (is_below f.id fs w) in
          let cost : open_cost us ts ks f.id.0 ≡ suc (length (operands (tree_in ts f.id))) = cost-open ks f.id.0 h.unclosed (subst (λ (u : Term). has_term us u ≡ true) (sym e) counted) in
          let next : f.next ≤ length (operands (tree_in ts f.id)) = subst (λ (u : Term). f.next ≤ length (operands u)) (sym e) h.next in
          omega arith

      wait-costs : (k : NodeId) (fs : List Frame) → Wait now ks root k fs → open_costs us ts ks (suc k.0) + looked_up fs ≤ open_costs us ts ks n
      wait-costs k [] w =
          let le : k.0 ≤ root.0 = is_below k [] w in
          let most = costs-le (suc k.0) n (omega arith) in
          omega arith
      wait-costs k (f ∷ fs) w =
          let most : open_costs us ts ks f.id.0 + open_cost us ts ks f.id.0 + looked_up fs ≤ open_costs us ts ks n = wait-costs f.id fs w.1 in
          let below = w.0.below in
          let less : open_costs us ts ks (suc k.0) ≤ open_costs us ts ks f.id.0 = costs-le (suc k.0) f.id.0 (omega arith) in
          let cost : f.next < open_cost us ts ks f.id.0 = frame_cost f fs w.0.frame w.1 in
          omega arith

      pub ready-costs : (f : Frame) (fs : List Frame) → IsReady now ks f → Wait now ks root f.id fs → f.next + looked_up fs < open_costs us ts ks n
      ready-costs f fs h w =
          let most : open_costs us ts ks f.id.0 + open_cost us ts ks f.id.0 + looked_up fs ≤ open_costs us ts ks n = wait-costs f.id fs w in
          let cost : f.next < open_cost us ts ks f.id.0 = frame_cost f fs h.frame w in
          omega arith
