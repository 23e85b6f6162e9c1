use Rattle.std.proofs.Common.{◌≡◌, ℕ, ◌<◌, true, get_or}
use Rattle.smt_terms.specs.declared.ids.NodeId.{NodeId}
use Rattle.evaluation.specs.KeptValues.{KeepsBounds, has_bound}
use Rattle.evaluation.proofs.bounds.bits_bound.Given as goal

abbrev pub invariant-loop-below : goal.invariant-loop-below
invariant-loop-below l = record {
  keeps : KeepsBounds l.fn.table l.kept;
  done : (i : ℕ) (d : NodeId) → i < l.below-index → has_bound l.kept (get_or l.below-items i d) ≡ true;
  stay : (k : NodeId) → has_bound l.fn.kept k ≡ true → has_bound l.kept k ≡ true;
}
