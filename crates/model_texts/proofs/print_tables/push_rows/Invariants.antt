use Rattle.std.proofs.Common.{◌≡◌, ◌++◌, map}
use Rattle.smt_lex.specs.FormText.{form_text}
use Rattle.smt_values.specs.SortIds.{sort_at}
use Rattle.model_texts.specs.ModelLines.{parameters, rows_form, value_form}
use Rattle.model_texts.proofs.PrintedTables.{rows_left}
use Rattle.model_texts.proofs.print_tables.push_rows.Given as goal

-- what is printed, and then the rows that are left
abbrev pub invariant-loop-i : goal.invariant-loop-i
invariant-loop-i l =
    l.out.items ++ rows_left (parameters 0 (map (sort_at l.table.sorts) l.sorts)) (sort_at l.table.sorts l.to) l.i l.graph.rows (value_form (sort_at l.table.sorts l.to) l.graph.otherwise)
    ≡ l.fn.out.items ++ form_text (rows_form (parameters 0 (map (sort_at l.table.sorts) l.sorts)) (sort_at l.table.sorts l.to) l.graph.rows (value_form (sort_at l.table.sorts l.to) l.graph.otherwise))
