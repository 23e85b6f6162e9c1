-- What was kept of the operands of a node.
use Rattle.std.specs.Prelude.{◌≡◌, ℕ, ◌<◌, List, length, get_or, Some}
use Rattle.smt_terms.specs.declared.ids.NodeId.{NodeId}
use Rattle.term_walk.specs.declared.kept.Place.{Place}
use Rattle.term_walk.specs.Places.{result_at}

-- the results of these nodes, one for each
pub record AreResults (ks : List (Place NodeId)) (kids ids : List NodeId) : Type 0 where
  pub number : length ids ≡ length kids
  pub each : (i : ℕ) (d : NodeId) → i < length kids → result_at ks (get_or kids i d).0 ≡ Some (get_or ids i d)
