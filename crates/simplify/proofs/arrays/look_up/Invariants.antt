use Rattle.std.proofs.Common.{◌≡◌}
use Rattle.smt_terms.specs.Rank.{sort_of}
use Rattle.term_table.specs.Formulas.{tree, IsNode}
use Rattle.simplify.specs.Arrays.{selection}
use Rattle.simplify.proofs.arrays.look_up.Given as goal

abbrev pub invariant-loop-value : goal.invariant-loop-value
invariant-loop-value l = record {
  node : IsNode l.fn.table l.reached;
  sort : sort_of (tree l.fn.table l.reached) ≡ sort_of (tree l.fn.table l.fn.array);
  term : selection (tree l.fn.table l.fn.array) (tree l.fn.table l.fn.index) ≡ selection (tree l.fn.table l.reached) (tree l.fn.table l.fn.index);
}

abbrev pub decreases-loop-value : goal.decreases-loop-value
decreases-loop-value l = l.reached.0
