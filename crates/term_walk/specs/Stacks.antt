-- The stack of a walk: nodes whose operands are looked up in order. Each waits for the node above it.
use Rattle.std.specs.Prelude.{◌≡◌, ℕ, zero, suc, ◌+◌, ◌-◌, ◌<◌, ◌≤◌, Bool, true, false, List, [], ◌∷◌, length, get_or, if◌then◌else◌}
use Rattle.smt_terms.specs.declared.ids.NodeId.{NodeId}
use Rattle.smt_terms.specs.Groups.{has_term}
use Rattle.smt_terms.specs.Term.{Term}
use Rattle.term_table.specs.Formulas.{no_tree, tree_in, operands, Grows}
use Rattle.term_walk.specs.declared.kept.Place.{Place}
use Rattle.term_walk.specs.declared.frames.Frame.{Frame}
use Rattle.term_walk.specs.Places.{is_closed_at}
use Rattle.term_walk.specs.Walking.{HasClosed}

module _ {T : Type 0} where
  -- the first n of these terms are closed
  abbrev pub AreClosedBefore : List Term → List (Place T) → List Term → ℕ → Type 0
  AreClosedBefore ts ks us n = (i : ℕ) → i < n → i < length us → HasClosed ts ks (get_or us i no_tree)

  -- a node that isn't closed, of whose operands some were looked up
  pub record IsOpen (ts : List Term) (ks : List (Place T)) (f : Frame) : Type 0 where
    pub node : f.id.0 < length ts
    pub unclosed : is_closed_at ks f.id.0 ≡ false
    pub next : f.next ≤ length (operands (tree_in ts f.id))

  -- the operand that was looked up last is the node k
  pub record IsWaiting (ts : List Term) (ks : List (Place T)) (k : NodeId) (f : Frame) : Type 0 where
    pub frame : IsOpen ts ks f
    pub below : k.0 < f.id.0
    pub some : 0 < f.next
    pub operand : get_or (operands (tree_in ts f.id)) (f.next - 1) no_tree ≡ tree_in ts k
    pub before : AreClosedBefore ts ks (operands (tree_in ts f.id)) (f.next - 1)

  -- frames, the last first, of which the first waits for k, and the others each for the one before it; k is the root
  -- where there are none
  abbrev pub Wait : List Term → List (Place T) → NodeId → NodeId → List Frame → Type 0
  Wait ts ks root k [] = k ≡ root
  Wait ts ks root k (f ∷ fs) = IsWaiting ts ks k f × Wait ts ks root f.id fs

  -- a frame that waits for none
  pub record IsReady (ts : List Term) (ks : List (Place T)) (f : Frame) : Type 0 where
    pub frame : IsOpen ts ks f
    pub before : AreClosedBefore ts ks (operands (tree_in ts f.id)) f.next

  -- a stack on the way to close the root
  abbrev pub Leads : List Term → List (Place T) → NodeId → List Frame → Type 0
  Leads ts ks root [] = is_closed_at ks root.0 ≡ true
  Leads ts ks root (f ∷ fs) = IsReady ts ks f × Wait ts ks root f.id fs

  -- the steps that closing node i may take, for the terms us alone
  abbrev pub open_cost : List Term → List Term → List (Place T) → ℕ → ℕ
  open_cost us ts ks i =
      if is_closed_at ks i then 0
      else if has_term us (get_or ts i no_tree) then suc (length (operands (get_or ts i no_tree)))
      else 0

  -- and those that closing the nodes below n may take
  abbrev pub open_costs : List Term → List Term → List (Place T) → ℕ → ℕ
  open_costs us ts ks zero = 0
  open_costs us ts ks (suc n) = open_costs us ts ks n + open_cost us ts ks n

-- the terms us hold the root and the operands of each of them, and ts are the terms of the first nodes, the root among them
pub record IsCounted (us ts now : List Term) (root : NodeId) : Type 0 where
  pub grows : Grows ts now
  pub within : root.0 < length ts
  pub whole : has_term us (tree_in now root) ≡ true
  pub down : (u : Term) (i : ℕ) → has_term us u ≡ true → i < length (operands u) → has_term us (get_or (operands u) i no_tree) ≡ true

-- how many operands of open nodes were looked up
abbrev pub looked_up : List Frame → ℕ
looked_up [] = 0
looked_up (f ∷ fs) = f.next + looked_up fs

-- the operand of a frame that is looked up next
pub record IsNextOperand (ts : List Term) (f : Frame) (k : NodeId) : Type 0 where
  pub below : k.0 < f.id.0
  pub within : f.next < length (operands (tree_in ts f.id))
  pub term : tree_in ts k ≡ get_or (operands (tree_in ts f.id)) f.next no_tree

abbrev pub first : NodeId → Frame
first k = record { id = k; next = 0 }

abbrev pub advanced : Frame → Frame
advanced f = record { id = f.id; next = f.next + 1 }

-- the stack behind the look-up of the node k, which is closed or not
abbrev pub looked : Bool → NodeId → Frame → List Frame → List Frame
looked true k f fs = advanced f ∷ fs
looked false k f fs = first k ∷ advanced f ∷ fs
