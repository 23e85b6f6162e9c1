-- The distinct subterms of formulas, as nodes of a table, and the bits that are kept of them.
use Rattle.std.specs.Prelude.{◌≡◌, ◌<◌, Bool, true, false, not, List, [], ◌∷◌, ◌++◌, map, filter, flat_map, length, All, Some, get_or, is_some, unwrap_or}
use Rattle.smt_terms.specs.declared.ids.NodeId.{NodeId}
use Rattle.smt_terms.specs.Sorts.{Symbol}
use Rattle.smt_terms.specs.Term.{op, symbol, const_array, Term, apply, quantified, constant}
use Rattle.smt_terms.specs.Groups.{Named, has_term}
use Rattle.normal_forms.specs.Nodes.{IsFormula}
use Rattle.term_walk.specs.Binders.{is_quantified}
use Rattle.term_groups.specs.Parts.{operands_of}
use Rattle.term_groups.specs.Seen.{named_at}
use Rattle.term_groups.specs.declared.constants.Constants.{Constants}
use Rattle.term_table.specs.Formulas.{Formulas, no_symbol, tree, trees_at, IsNode, AreNodes}
use Rattle.bit_blast.specs.BitNodes.{AreBits}
use Rattle.bit_blast.specs.Blasted.{is_bits_head, is_bits, bits_of_constant, is_vector, bit_constant, vector_constants, bits}
use Rattle.bit_blast.specs.KeptBits.{Lists, list_of}

-- ---- the subterms

-- the operands of quantified terms aren't looked at
abbrev pub is_open : Term → Bool
is_open t = not (is_quantified t)

-- a symbol of the sort of a bit vector
abbrev pub is_vector_term : Term → Bool
is_vector_term (apply (symbol f) ts) = is_vector f
is_vector_term (apply (op o) ts) = false
is_vector_term (apply (const_array s) ts) = false
is_vector_term (quantified q xs body) = false

-- each behind its operands
pub record AreInOrder (t : Formulas) (ks : List NodeId) : Type 0 where
  pub nodes : AreNodes t ks
  pub behind : (us : List Term) (u : Term) (vs : List Term) → trees_at t ks ≡ us ++ u ∷ vs → is_open u ≡ true → All (λ v. has_term us v ≡ true) (operands_of u)

-- the roots among them, and nothing else than what stands below the roots
pub record AreSubterms (t : Formulas) (roots : List Term) (ks : List NodeId) : Type 0 where
  pub order : AreInOrder t ks
  pub among : All (λ u. has_term (trees_at t ks) u ≡ true) roots
  pub bits : All (λ u. is_bits u ≡ true) roots → All (λ u. is_bits u ≡ true) (trees_at t ks)
  pub vectors : All (λ u. is_bits u ≡ true) roots → filter is_vector_term (trees_at t ks) ≡ map constant (vector_constants roots)

-- ---- which of them are formulas of bits

-- a term that isn't quantified, whose symbol, if it has one, has no arguments
abbrev pub is_plain : Term → Bool
is_plain (apply h ts) = is_bits_head h
is_plain (quantified q xs body) = false

-- ---- the constants of bit vectors

-- the symbol of a term that is one
abbrev pub symbol_in : Term → Symbol
symbol_in (apply (symbol f) ts) = f
symbol_in (apply (op o) ts) = no_symbol
symbol_in (apply (const_array s) ts) = no_symbol
symbol_in (quantified q xs body) = no_symbol

-- the node of a constant of a bit vector
pub record IsVector (t : Formulas) (k : NodeId) : Type 0 where
  pub node : IsNode t k
  pub symbol : Symbol
  pub term : tree t k ≡ constant symbol
  pub vector : is_vector symbol ≡ true

-- the bits of a constant
abbrev pub constant_bits : Term → List Term
constant_bits t = bits_of_constant (symbol_in t)

-- constants of bit vectors, and the constants that were drawn for their bits
pub record AreDrawn (t : Formulas) (vectors : List NodeId) (c : Constants) : Type 0 where
  pub constants : All (IsVector t) vectors
  pub formulas : All (IsFormula t) c.nodes
  pub terms : trees_at t c.nodes ≡ map (bit_constant (named_at t c.symbols)) (flat_map constant_bits (trees_at t vectors))

-- ---- the bits that are kept

-- these are the bits of a node
pub record IsKeptFor (t : Formulas) (ns : Named) (k : NodeId) (js : List NodeId) : Type 0 where
  pub node : IsNode t k
  pub bits : AreBits t js (bits ns (tree t k))

-- what is kept of a node are its bits
abbrev pub AreKept : Formulas → Named → Lists → Type 0
AreKept t ns ls = (k : NodeId) (js : List NodeId) → list_of ls k ≡ Some js → IsKeptFor t ns k js

abbrev pub is_kept : Lists → NodeId → Bool
is_kept ls k = is_some (list_of ls k)

-- a node that has one bit at least
pub record HasFirst (ls : Lists) (k : NodeId) : Type 0 where
  pub nodes : List NodeId
  pub found : list_of ls k ≡ Some nodes
  pub some : 0 < length nodes

-- its lowest
abbrev pub first_bit : Lists → NodeId → NodeId
first_bit ls k = get_or (unwrap_or (list_of ls k) []) 0 k
