use Rattle.std.proofs.Common.{◌≡◌, ◌++◌, ◌∷◌, [], map}
use Rattle.smt_lex.specs.FormText.{form_text}
use Rattle.smt_terms.specs.Sorts.{int}
use Rattle.smt_terms.specs.Values.{whole}
use Rattle.model_texts.specs.ModelLines.{parameters, rows_form, value_form, row_of}
use Rattle.model_texts.proofs.PrintedTables.{rows_left}
use Rattle.model_texts.proofs.print_tables.push_number_rows.Given as goal

-- what is printed, and then the rows that are left
abbrev pub invariant-loop-i : goal.invariant-loop-i
invariant-loop-i l =
    l.out.items ++ rows_left (parameters 0 (int ∷ [])) int l.i (map row_of l.numbers.rows) (value_form int (whole l.numbers.otherwise))
    ≡ l.fn.out.items ++ form_text (rows_form (parameters 0 (int ∷ [])) int (map row_of l.numbers.rows) (value_form int (whole l.numbers.otherwise)))
