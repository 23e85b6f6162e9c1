-- Nodes of simplified terms.
use Rattle.std.specs.Prelude.{◌≡◌, List, Option, Some, None, IsOk}
use Rattle.std.proofs.Common.{◌∙◌, arith}
use Rattle.smt_terms.specs.declared.ids.NodeId.{NodeId}
use Rattle.smt_terms.specs.declared.op.Op.{Op}
use Rattle.smt_terms.specs.Term.{Term}
use Rattle.term_table.specs.Formulas.{Formulas, no_tree, tree, trees_at, IsNode, AreNodes, IsOpOf, rank_over}
use Rattle.term_walk.specs.Walking.{GrowsTo}
use Rattle.simplify.specs.Simplify.{simp}

-- the node of a term
pub record Names (t : Formulas) (u : Term) (k : NodeId) : Type 0 where
  pub node : IsNode t k
  pub term : tree t k ≡ u

-- the answer of a law: the node of its term, or none where it has none
abbrev pub Answers : Formulas → Option Term → Option NodeId → Type 0
Answers t (Some u) (Some k) = Names t u k
Answers t (Some u) None = ⊥
Answers t None (Some k) = ⊥
Answers t None None = Unit {0}

-- an operator that has a rank over these operands; it may be a unary minus over a constant
pub record IsOver (t : Formulas) (p : Op) (ks : List NodeId) : Type 0 where
  pub kids : AreNodes t ks
  pub numbers : IsOpOf t p
  pub ranked : IsOk (rank_over t p (trees_at t ks))

-- the node of the simplified term
abbrev pub IsSimplified : Formulas → Term → NodeId → Type 0
IsSimplified t u k = Names t (simp u) k

-- it stays as the table gains
pub simplified_stays : (old new : Formulas) (u : Term) (k : NodeId) → GrowsTo old new → IsSimplified old u k → IsSimplified new u k
simplified_stays old new u k grows is =
    let node = is.node in
    let longer = grows.trees.longer in
    record { node = omega arith; term = grows.trees.same k.0 no_tree is.node ∙ is.term }
