use Rattle.std.proofs.Common.{◌∙◌, sym, ap}
use Rattle.smt_terms.specs.Models.{NumberGraph, distinct_number_rows}
use Rattle.models.proofs.RowsOfNumbers.{rows_distinct}
use Rattle.models.proofs.numbers.NumberGraph.rows_are_distinct.Goals as goal

pub returns : goal.returns
returns c = ap (λ (g : NumberGraph). distinct_number_rows g.rows) (sym c.self.view_is) ∙ rows_distinct c.self.inside.rows.entries c.len.ensures.unique
