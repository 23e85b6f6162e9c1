-- Arrays as nodes, layer by layer.
use Rattle.std.specs.Prelude.{◌≡◌, ◌<◌, Bool, true, false, not}
use Rattle.smt_terms.specs.declared.ids.NodeId.{NodeId}
use Rattle.smt_terms.specs.declared.op.Op.TheVariants.{Store}
use Rattle.smt_terms.specs.Sorts.{Sort}
use Rattle.smt_terms.specs.Term.{op, const_array, Term, apply, none, ◌⨾◌}
use Rattle.smt_terms.specs.ArrayTerms.{selected, stored}
use Rattle.smt_terms.specs.Equal.{op_eq}
use Rattle.smt_terms.specs.Rank.{sort_of}
use Rattle.term_table.specs.Formulas.{Formulas, tree, IsNode}
use Rattle.simplify.specs.Arrays.{selection, storing, storing_anew}
use Rattle.simplify.specs.Reduced.{Names}
use Rattle.simplify.specs.declared.arrays.Layer.{Layer}
use Rattle.simplify.specs.declared.arrays.Layer.TheVariants.{Filled, Stored, Opaque}
use Rattle.simplify.specs.declared.arrays.Reading.{Reading}
use Rattle.simplify.specs.declared.arrays.Reading.TheVariants.{Found, Before, Unknown}
use Rattle.simplify.specs.declared.arrays.Element.{Element}
use Rattle.simplify.specs.declared.arrays.Element.TheVariants.{Known, Of}

-- neither a constant array nor a store
abbrev pub is_opaque : Term → Bool
is_opaque (apply (const_array s) (v ⨾ none)) = false
is_opaque (apply (op o) (a ⨾ i ⨾ v ⨾ none)) = not (op_eq o Store)
is_opaque _ = true

-- the node k is the constant array of v
pub record IsFilled (t : Formulas) (k v : NodeId) : Type 0 where
  pub sort : Sort
  pub value : IsNode t v
  pub term : tree t k ≡ apply (const_array sort) (tree t v ⨾ none)

-- an array of the same sort, made before
pub record IsEarlier (t : Formulas) (a b : NodeId) : Type 0 where
  pub node : IsNode t b
  pub below : b.0 < a.0
  pub sort : sort_of (tree t b) ≡ sort_of (tree t a)

-- the node k is a store of v at i, over a
pub record IsStored (t : Formulas) (k a i v : NodeId) : Type 0 where
  pub earlier : IsEarlier t k a
  pub index : IsNode t i
  pub value : IsNode t v
  pub term : tree t k ≡ stored (tree t a) (tree t i) (tree t v)

abbrev pub IsLayer : Formulas → NodeId → Layer → Type 0
IsLayer t k (Filled v) = IsFilled t k v
IsLayer t k (Stored a i v) = IsStored t k a i v
IsLayer t k Opaque = is_opaque (tree t k) ≡ true

-- what the outermost layer of a says of its element at j
abbrev pub Reads : Formulas → NodeId → NodeId → Reading → Type 0
Reads t a j (Found v) = Names t (selection (tree t a) (tree t j)) v
Reads t a j (Before b) = IsEarlier t a b × (selection (tree t a) (tree t j) ≡ selection (tree t b) (tree t j))
Reads t a j Unknown = selection (tree t a) (tree t j) ≡ selected (tree t a) (tree t j)

-- an array of the sort of a whose `select` the element of a is
pub record IsReached (t : Formulas) (a j b : NodeId) : Type 0 where
  pub node : IsNode t b
  pub sort : sort_of (tree t b) ≡ sort_of (tree t a)
  pub term : selection (tree t a) (tree t j) ≡ selected (tree t b) (tree t j)

abbrev pub IsElement : Formulas → NodeId → NodeId → Element → Type 0
IsElement t a j (Known v) = Names t (selection (tree t a) (tree t j)) v
IsElement t a j (Of b) = IsReached t a j b

-- a store at i over a is one over b
pub record IsHidden (t : Formulas) (a i b : NodeId) : Type 0 where
  pub earlier : IsEarlier t a b
  pub term : (v : Term) → storing (tree t a) (tree t i) v ≡ storing (tree t b) (tree t i) v

-- a store at i over a is a new one over b
pub record IsBare (t : Formulas) (a i b : NodeId) : Type 0 where
  pub node : IsNode t b
  pub sort : sort_of (tree t b) ≡ sort_of (tree t a)
  pub term : (v : Term) → storing (tree t a) (tree t i) v ≡ storing_anew (tree t b) (tree t i) v
