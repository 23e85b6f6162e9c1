-- The bits that are kept of nodes of a table.
use Rattle.std.specs.Prelude.{◌≡◌, ◌==◌, true, false, List, [], ◌∷◌, Option, Some, None, if◌then◌else◌}
use Rattle.smt_terms.specs.declared.ids.NodeId.{NodeId}
use Rattle.smt_terms.specs.Groups.{Named, has_term}
use Rattle.smt_terms.specs.Term.{symbol, Term, apply}
use Rattle.term_table.specs.Formulas.{Formulas, tree, operands, IsNode}
use Rattle.bit_blast.specs.BitNodes.{AreBits}
use Rattle.bit_blast.specs.Blasted.{bits, is_vector}

abbrev pub Lists : Type 0
Lists = List (NodeId × List NodeId)

abbrev pub list_of : Lists → NodeId → Option (List NodeId)
list_of [] k = None
list_of (p ∷ ps) k = if k.0 == p.0.0 then Some p.1 else list_of ps k

-- the node k has these bits, and all else is as it was
pub record Sets (old new : Lists) (k : NodeId) (bits : List NodeId) : Type 0 where
  pub here : (j : NodeId) → j.0 ≡ k.0 → list_of new j ≡ Some bits
  pub others : (j : NodeId) → (j.0 ≡ k.0 → ⊥) → list_of new j ≡ list_of old j

-- the bits of a node, where these new constants stand for the bits of constants
pub record HasBits (t : Formulas) (ns : Named) (ls : Lists) (k : NodeId) : Type 0 where
  pub nodes : List NodeId
  pub found : list_of ls k ≡ Some nodes
  pub bits : AreBits t nodes (bits ns (tree t k))

-- all nodes of the operands of k have theirs
abbrev pub HaveBits : Formulas → Named → Lists → NodeId → Type 0
HaveBits t ns ls k = (j : NodeId) → IsNode t j → has_term (operands (tree t k)) (tree t j) ≡ true → HasBits t ns ls j

-- for some constants
abbrev pub HaveSomeBits : Formulas → Lists → NodeId → Type 0
HaveSomeBits t ls k = (ns : Named) × HaveBits t ns ls k

-- a term other than the constant of a bit vector
abbrev pub IsNoVector : Term → Type 0
IsNoVector (apply (symbol f) ts) = is_vector f ≡ false
IsNoVector t = Unit {0}
