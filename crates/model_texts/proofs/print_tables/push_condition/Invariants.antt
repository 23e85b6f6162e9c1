use Rattle.std.proofs.Common.{◌≡◌, ◌++◌, map}
use Rattle.smt_lex.specs.FormText.{form_text}
use Rattle.smt_values.specs.SortIds.{sort_at}
use Rattle.models.specs.GraphRows.{meanings}
use Rattle.model_texts.specs.ModelLines.{parameters, equation_forms, condition_form}
use Rattle.model_texts.proofs.PrintedTables.{equations_left}
use Rattle.model_texts.proofs.print_tables.push_condition.Given as goal

-- what is printed, and then the equations that are left
abbrev pub invariant-loop-place : goal.invariant-loop-place
invariant-loop-place l =
    l.out.items ++ equations_left l.place (map (sort_at l.table.sorts) l.sorts) (meanings l.keys)
    ≡ l.fn.out.items ++ form_text (condition_form (equation_forms (parameters 0 (map (sort_at l.table.sorts) l.sorts)) (meanings l.keys)))
