use Rattle.std.proofs.Common.{◌≡◌, ◌++◌, map}
use Rattle.smt_lex.specs.FormText.{form_text}
use Rattle.smt_values.specs.SortIds.{sort_at}
use Rattle.term_table.specs.WrittenForms.{list_form, variable_form}
use Rattle.model_texts.specs.ModelLines.{parameters}
use Rattle.model_texts.proofs.PrintedTables.{parameters_left}
use Rattle.model_texts.proofs.print_tables.push_parameters.Given as goal

-- what is printed, and then the parameters that are left
abbrev pub invariant-loop-place : goal.invariant-loop-place
invariant-loop-place l =
    l.out.items ++ parameters_left l.place (map (sort_at l.table.sorts) l.sorts) ≡ l.fn.out.items ++ form_text (list_form (map variable_form (parameters 0 (map (sort_at l.table.sorts) l.sorts))))
