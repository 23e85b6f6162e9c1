-- What holds of the results that are kept of a table's nodes.
use Rattle.std.specs.Prelude.{◌≡◌, ◌<◌, ◌≤◌, true, List, [], ◌∷◌, All, IsTrue, Some, None, IsSome, length}
use Rattle.smt_terms.specs.declared.ids.NodeId.{NodeId}
use Rattle.smt_terms.specs.Term.{Term}
use Rattle.term_table.specs.Formulas.{Formulas, tree_in, tree, trees_at, operands, IsNode, AreNodes, Grows}
use Rattle.term_walk.specs.declared.kept.Place.{Place}
use Rattle.term_walk.specs.Places.{result_at, is_closed_at}
use Rattle.term_walk.specs.Subterms.{is_subterm}

-- a table that only gained: each number names what it named
pub record GrowsTo (old new : Formulas) : Type 0 where
  pub trees : Grows old.trees new.trees
  pub symbols : Grows old.symbols new.symbols
  pub sorts : Grows old.sorts new.sorts

module _ {T : Type 0} where
  -- each result is that of a node, and is related to the node's term
  pub record AreRelated (R : Formulas → Term → T → Type 0) (t : Formulas) (ks : List (Place T)) : Type 0 where
    pub node : (k : NodeId) → IsSome (result_at ks k.0) → IsNode t k
    pub related : (k : NodeId) (r : T) → result_at ks k.0 ≡ Some r → R t (tree t k) r

  -- each operand of this term has a result
  abbrev pub HaveResults : Formulas → Term → List (Place T) → Type 0
  HaveResults t u ks = (ids : List NodeId) → trees_at t ids ≡ operands u → AreNodes t ids → All (λ k. IsSome (result_at ks k.0)) ids

  -- the term of a closed node
  pub record HasClosed (ts : List Term) (ks : List (Place T)) (u : Term) : Type 0 where
    pub id : NodeId
    pub node : id.0 < length ts
    pub term : tree_in ts id ≡ u
    pub closed : is_closed_at ks id.0 ≡ true

  -- a node with a result whose operands are closed
  pub record IsClosed (ts : List Term) (ks : List (Place T)) (k : NodeId) : Type 0 where
    pub node : k.0 < length ts
    pub kept : IsSome (result_at ks k.0)
    pub operands : All (HasClosed ts ks) (operands (tree_in ts k))

  -- what walks keep: results are related to their terms, and each subterm of a closed node has a result
  pub record Fits (R : Formulas → Term → T → Type 0) (t : Formulas) (ks : List (Place T)) : Type 0 where
    pub related : AreRelated R t ks
    pub closed : (k : NodeId) → is_closed_at ks k.0 ≡ true → IsClosed t.trees ks k

  -- a node of this term, with a result
  pub record HasResult (t : Formulas) (ks : List (Place T)) (u : Term) : Type 0 where
    pub id : NodeId
    pub node : IsNode t id
    pub term : tree t id ≡ u
    pub kept : IsSome (result_at ks id.0)

  -- results that were there stay
  abbrev pub Stay : List (Place T) → List (Place T) → Type 0
  Stay old new = (k : NodeId) (r : T) → result_at old k.0 ≡ Some r → result_at new k.0 ≡ Some r

  -- a node that gained a result is one of a subterm of these terms
  abbrev pub GainsBelow : Formulas → List Term → List (Place T) → List (Place T) → Type 0
  GainsBelow t roots old new = (k : NodeId) → result_at old k.0 ≡ None → IsSome (result_at new k.0) → IsNode t k × IsTrue (is_subterm roots (tree t k))

  -- the same for one node
  abbrev pub GainsUnder : Formulas → NodeId → List (Place T) → List (Place T) → Type 0
  GainsUnder t root old new = (k : NodeId) → result_at old k.0 ≡ None → IsSome (result_at new k.0) → (k.0 ≤ root.0) × IsTrue (is_subterm (tree t root ∷ []) (tree t k))

  -- nodes that were closed stay closed
  abbrev pub StayClosed : List (Place T) → List (Place T) → Type 0
  StayClosed old new = (k : NodeId) → is_closed_at old k.0 ≡ true → is_closed_at new k.0 ≡ true

  -- each subterm of these terms has a result
  abbrev pub AllHaveResults : Formulas → List Term → List (Place T) → Type 0
  AllHaveResults t roots ks = (u : Term) → IsTrue (is_subterm roots u) → HasResult t ks u
