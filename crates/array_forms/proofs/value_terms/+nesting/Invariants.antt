use Rattle.std.proofs.Common.{◌≡◌, ◌+◌, ◌*◌, max, Some}
use Rattle.smt_terms.specs.Rank.{sort_of}
use Rattle.smt_terms.specs.Sorts.{array}
use Rattle.smt_values.specs.SortIds.{sort_at}
use Rattle.term_table.specs.Formulas.{tree, IsNode}
use Rattle.term_walk.specs.Walking.{GrowsTo}
use Rattle.array_forms.specs.ValueTerm.{stores, value_term}
use Rattle.array_forms.proofs.ValueNodes.{from}
use Rattle.array_forms.proofs.value_terms.+nesting.Given as goal

abbrev pub decreases-term_of : goal.decreases-term_of
decreases-term_of l = 4 * l.sort.0 + 3

abbrev pub decreases-term_of_array : goal.decreases-term_of_array
decreases-term_of_array l = 4 * l.sort.0 + 2

abbrev pub decreases-with_pairs : goal.decreases-with_pairs
decreases-with_pairs l = 4 * max l.index.0 l.element.0 + 5

abbrev pub decreases-with_pair : goal.decreases-with_pair
decreases-with_pair l = 4 * max l.index.0 l.element.0 + 4

-- the pairs that are left, stored over what was stored so far, give the whole
abbrev pub invariant-with_pairs-loop-i : goal.invariant-with_pairs-loop-i
invariant-with_pairs-loop-i l = record {
  grows : GrowsTo l.fn.table l.table;
  symbols : l.table.symbols ≡ l.fn.table.symbols;
  sorts : l.table.sorts ≡ l.fn.table.sorts;
  node : IsNode l.table l.stored;
  sort : sort_of (tree l.table l.stored) ≡ Some (array (sort_at l.fn.table.sorts l.index) (sort_at l.fn.table.sorts l.element));
  left :
      stores (value_term (sort_at l.fn.table.sorts l.index)) (value_term (sort_at l.fn.table.sorts l.element)) (Some (tree l.table l.stored)) (from l.i l.array.pairs)
      ≡ stores (value_term (sort_at l.fn.table.sorts l.index)) (value_term (sort_at l.fn.table.sorts l.element)) (Some (tree l.fn.table l.fn.filled)) l.array.pairs;
}
