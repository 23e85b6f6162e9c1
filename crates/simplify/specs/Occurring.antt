-- Where a constant symbol occurs free, and a search for it over nodes.
use Rattle.std.specs.Prelude.{◌≡◌, ◌<◌, ◌≤◌, Bool, true, false, List, ◌++◌, All, length, filter}
use Rattle.std.specs.List.{list_any}
use Rattle.smt_terms.specs.declared.ids.NodeId.{NodeId}
use Rattle.smt_terms.specs.Free.{free, is_among}
use Rattle.smt_terms.specs.Sorts.{Symbol, Variable}
use Rattle.smt_terms.specs.Term.{Term, constant_of}
use Rattle.term_table.specs.Formulas.{Formulas, tree, operands, AreNodes}
use Rattle.term_walk.specs.FreeLists.{has_node}

-- whether the symbol occurs free in a node
abbrev pub occurs_in : Formulas → Symbol → NodeId → Bool
occurs_in t f k = is_among (free (tree t k)) f

-- the variables that occur free in a term
abbrev pub occurring : Term → List Variable → List Variable
occurring u xs = filter (λ x. is_among (free u) (constant_of x)) xs

-- nodes below the node k wait now too, and the symbol occurs free in k where it does in one of them
pub record Opens (t : Formulas) (f : Symbol) (k : NodeId) (before after : List NodeId) : Type 0 where
  pub kids : List NodeId
  pub waiting : after ≡ before ++ kids
  pub below : All (λ j. j.0 < k.0) kids
  pub few : length kids ≤ length (operands (tree t k))
  pub same : occurs_in t f k ≡ list_any (occurs_in t f) kids

-- a node that waits and wasn't met, where the symbol occurs free, with no greater number than k
pub record Awaits (t : Formulas) (f : Symbol) (waiting met : List NodeId) (k : NodeId) : Type 0 where
  pub node : NodeId
  pub waits : has_node waiting node ≡ true
  pub unmet : has_node met node ≡ false
  pub low : node.0 ≤ k.0
  pub occurs : occurs_in t f node ≡ true

-- a search from the root on: what occurs in a node that waits occurs in the root, and what occurs in the root, or in a node
-- that was met, occurs in one that waits
pub record Searches (t : Formulas) (f : Symbol) (root : NodeId) (waiting met : List NodeId) : Type 0 where
  pub nodes : AreNodes t waiting
  pub reached : (k : NodeId) → has_node waiting k ≡ true → occurs_in t f k ≡ true → occurs_in t f root ≡ true
  pub whole : occurs_in t f root ≡ true → Awaits t f waiting met root
  pub covered : (k : NodeId) → has_node met k ≡ true → occurs_in t f k ≡ true → Awaits t f waiting met k
