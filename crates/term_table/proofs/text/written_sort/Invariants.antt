use Rattle.std.proofs.Common.{◌≡◌, ◌+◌, ◌-◌, ◌≤◌, ◌++◌, replicate}
use Rattle.smt_lex.specs.FormText.{form_text}
use Rattle.smt_values.specs.SortIds.{sort_at, IsSortId}
use Rattle.term_table.specs.WrittenForms.{sort_form}
use Rattle.term_table.proofs.text.written_sort.Given as goal

-- what is written, then the sort that is left, and then what closes the arrays around it
abbrev pub invariant-loop-index : goal.invariant-loop-index
invariant-loop-index l =
    (l.text.items ++ (form_text (sort_form (sort_at l.sorts l.inner)) ++ replicate l.open 41) ≡ form_text (sort_form (sort_at l.sorts l.fn.sort)))
    × (IsSortId l.sorts l.inner × (l.open + l.inner.0 ≤ l.fn.sort.0))

abbrev pub decreases-loop-index : goal.decreases-loop-index
decreases-loop-index l = l.inner.0

abbrev pub invariant-loop : goal.invariant-loop
invariant-loop l = l.text.items ++ replicate (l.open - l.counter) 41 ≡ form_text (sort_form (sort_at l.sorts l.fn.sort))
