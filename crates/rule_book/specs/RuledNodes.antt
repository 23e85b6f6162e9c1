-- Nodes of terms that a book has rewritten.
use Rattle.std.specs.Prelude.{List}
use Rattle.std.proofs.Common.{subst, sym, arith}
use Rattle.smt_terms.specs.declared.ids.NodeId.{NodeId}
use Rattle.smt_terms.specs.Sorts.{Name}
use Rattle.smt_terms.specs.Term.{Term}
use Rattle.term_table.specs.Formulas.{Formulas, no_tree, tree, IsNode}
use Rattle.term_walk.specs.Walking.{GrowsTo}
use Rattle.rule_book.specs.Rewriting.{Rewrites}

-- the node of what rules of these names made of a term
pub record IsRuled (ns : List Name) (t : Formulas) (u : Term) (k : NodeId) : Type 0 where
  pub node : IsNode t k
  pub term : Rewrites ns u (tree t k)

-- it stays as the table gains
pub ruled_stays : (ns : List Name) (old new : Formulas) (u : Term) (k : NodeId) → GrowsTo old new → IsRuled ns old u k → IsRuled ns new u k
ruled_stays ns old new u k grows is =
    let node = is.node in
    let longer = grows.trees.longer in
    record { node = omega arith; term = subst (λ v. Rewrites ns u v) (sym (grows.trees.same k.0 no_tree is.node)) is.term }
