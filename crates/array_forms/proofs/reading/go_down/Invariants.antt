use Rattle.std.proofs.Common.{◌≡◌, All}
use Rattle.smt_terms.specs.ArrayTerms.{selected}
use Rattle.smt_terms.specs.Rank.{sort_of, IsWellSorted}
use Rattle.term_table.specs.Formulas.{tree, IsNode}
use Rattle.array_forms.specs.Reads.{read}
use Rattle.array_forms.specs.Writes.{over_writes, Suits}
use Rattle.array_forms.proofs.reading.go_down.Given as goal

abbrev pub invariant-loop-write : goal.invariant-loop-write
invariant-loop-write l = record {
  node : IsNode l.table l.reached;
  sorted : IsWellSorted (selected (tree l.table l.reached) (tree l.table l.index));
  sort : sort_of (selected (tree l.table l.reached) (tree l.table l.index)) ≡ sort_of (selected (tree l.table l.fn.array) (tree l.table l.index));
  suit : All (Suits l.table (tree l.table l.index) (sort_of (selected (tree l.table l.fn.array) (tree l.table l.index)))) l.passed.items;
  term : read (tree l.table l.fn.array) (tree l.table l.index) ≡ over_writes l.table (tree l.table l.index) l.passed.items (read (tree l.table l.reached) (tree l.table l.index));
}

abbrev pub decreases-loop-write : goal.decreases-loop-write
decreases-loop-write l = l.reached.0
