use Rattle.std.proofs.Common.{◌≡◌, All, length}
use Rattle.smt_terms.specs.Rank.{sort_of}
use Rattle.term_table.specs.Formulas.{tree, IsNode}
use Rattle.term_walk.specs.Walking.{GrowsTo}
use Rattle.array_forms.specs.Writes.{over_writes, Suits}
use Rattle.array_forms.proofs.reading.go_back.Given as goal

abbrev pub invariant-loop-write : goal.invariant-loop-write
invariant-loop-write l = record {
  grows : GrowsTo l.fn.table l.table;
  symbols : l.table.symbols ≡ l.fn.table.symbols;
  sorts : l.table.sorts ≡ l.fn.table.sorts;
  node : IsNode l.table l.element;
  sort : sort_of (tree l.table l.element) ≡ sort_of (tree l.fn.table l.fn.element);
  suit : All (Suits l.fn.table (tree l.fn.table l.index) (sort_of (tree l.fn.table l.fn.element))) l.passed.items;
  term : over_writes l.fn.table (tree l.fn.table l.index) l.passed.items (tree l.table l.element) ≡ over_writes l.fn.table (tree l.fn.table l.index) l.fn.passed.items (tree l.fn.table l.fn.element);
}

abbrev pub decreases-loop-write : goal.decreases-loop-write
decreases-loop-write l = length l.passed.items
