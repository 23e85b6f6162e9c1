use Rattle.std.proofs.Common.{◌≡◌}
use Rattle.smt_terms.specs.Rank.{sort_of}
use Rattle.smt_terms.specs.Term.{Term}
use Rattle.term_table.specs.Formulas.{tree, IsNode}
use Rattle.simplify.specs.Arrays.{storing}
use Rattle.simplify.proofs.arrays.bare.Given as goal

abbrev pub invariant-loop-before : goal.invariant-loop-before
invariant-loop-before l = record {
  node : IsNode l.fn.table l.reached;
  sort : sort_of (tree l.fn.table l.reached) ≡ sort_of (tree l.fn.table l.fn.array);
  term : (v : Term) → storing (tree l.fn.table l.fn.array) (tree l.fn.table l.fn.index) v ≡ storing (tree l.fn.table l.reached) (tree l.fn.table l.fn.index) v;
}

abbrev pub decreases-loop-before : goal.decreases-loop-before
decreases-loop-before l = l.reached.0
