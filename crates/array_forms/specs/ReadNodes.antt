-- What reading over writing makes of a term, as a node of a table.
use Rattle.std.specs.Prelude.{◌≡◌}
use Rattle.std.proofs.Common.{◌∙◌, arith}
use Rattle.smt_terms.specs.declared.ids.NodeId.{NodeId}
use Rattle.smt_terms.specs.Term.{Term}
use Rattle.term_table.specs.Formulas.{Formulas, no_tree, tree, IsNode}
use Rattle.term_walk.specs.Walking.{GrowsTo}
use Rattle.array_forms.specs.Reads.{reads}

pub record HasReads (t : Formulas) (u : Term) (k : NodeId) : Type 0 where
  pub node : IsNode t k
  pub term : tree t k ≡ reads u

-- it stays as the table gains
pub reads_stay : (old new : Formulas) (u : Term) (k : NodeId) → GrowsTo old new → HasReads old u k → HasReads new u k
reads_stay old new u k grows has =
    let node = has.node in
    let longer = grows.trees.longer in
    record { node = omega arith; term = grows.trees.same k.0 no_tree has.node ∙ has.term }
