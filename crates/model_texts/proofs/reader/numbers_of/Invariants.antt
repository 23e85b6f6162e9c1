use Rattle.std.proofs.Common.{◌≡◌, ◌∷◌, [], take}
use Rattle.smt_terms.specs.Sorts.{int}
use Rattle.smt_terms.specs.Values as values
use Rattle.smt_values.specs.Meaning.{meaning}
use Rattle.model_texts.specs.GivenTables.{rows_given}
use Rattle.model_texts.specs.ModelText.{number_graph, with_first_rows}
use Rattle.model_texts.proofs.reader.numbers_of.Given as goal

-- the rows so far as rows of numbers
abbrev pub invariant-loop-row : goal.invariant-loop-row
invariant-loop-row l =
    (counts : values.Sizes) → l.numbers ≡ number_graph (with_first_rows (int ∷ []) counts record { rows = rows_given (take l.row-index l.fn.given.rows.items); otherwise = meaning l.fn.given.otherwise })
