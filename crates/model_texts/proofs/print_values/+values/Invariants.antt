use Rattle.std.proofs.Common.{◌≡◌, ◌++◌, ◌+◌, ◌*◌}
use Rattle.smt_lex.specs.FormText.{form_text}
use Rattle.smt_values.specs.SortIds.{sort_at}
use Rattle.smt_values.specs.Tables.{as_value}
use Rattle.model_texts.specs.ModelLines.{value_form}
use Rattle.model_texts.proofs.PrintedValues.{pairs_from, pairs_text}
use Rattle.model_texts.proofs.print_values.+values.Given as goal

abbrev pub decreases-push_array : goal.decreases-push_array
decreases-push_array l = 2 * l.sort.0

abbrev pub decreases-push_value : goal.decreases-push_value
decreases-push_value l = 2 * l.sort.0 + 1

-- what is printed, and then the pairs that are left
abbrev pub invariant-push_array-loop-place : goal.invariant-push_array-loop-place
invariant-push_array-loop-place l =
    l.out.items ++ pairs_text (value_form (sort_at l.table.sorts l.index)) (value_form (sort_at l.table.sorts l.element)) (pairs_from l.place l.array.pairs)
    ≡ l.fn.out.items ++ form_text (value_form (sort_at l.table.sorts l.fn.sort) (as_value l.array))
