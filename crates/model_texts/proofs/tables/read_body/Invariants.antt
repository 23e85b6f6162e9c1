use Rattle.smt_values.specs.SortIds.{sort_at}
use Rattle.script_terms.specs.Places.{form_from}
use Rattle.model_texts.specs.GivenParameters.{variables_at}
use Rattle.model_texts.specs.Tables.{body_in}
use Rattle.model_texts.proofs.RowByRow.{Rowing, body_length}
use Rattle.model_texts.proofs.tables.read_body.Given as goal

-- the rows so far, and what is left of the body
abbrev pub invariant-loop-choice : goal.invariant-loop-choice
invariant-loop-choice l =
    Rowing l.table l.forest.tokens (body_in (form_from l.forest.tokens l.at) (variables_at l.table l.forest.tokens l.sorts l.parameters) (sort_at l.table.sorts l.to)) (variables_at l.table l.forest.tokens l.sorts l.parameters) (sort_at l.table.sorts l.to)
    l.fn.elements l.rest l.rows.items l.elements

abbrev pub decreases-loop-choice : goal.decreases-loop-choice
decreases-loop-choice l = body_length (form_from l.forest.tokens l.rest)
