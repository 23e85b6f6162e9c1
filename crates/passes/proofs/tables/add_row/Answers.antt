use Rattle.std.proofs.Common.{sym}
use Rattle.smt_values.specs.Meaning.{meaning}
use Rattle.term_table.specs.Formulas.{symbol_at}
use Rattle.models.specs.GraphRows.{meanings}
use Rattle.models.specs.ModelView.{model_at}
use Rattle.passes.proofs.TabledTerms.{row-absent}
use Rattle.passes.proofs.tables.add_row.Goals as goal

pub returns-clause-model : goal.returns-clause-model
returns-clause-model c =
    let t = c.args.table.now in
    row-absent (model_at t c.args.model.now) (symbol_at t c.args.row.function) (meanings c.args.row.keys.items) (meaning c.args.row.value) c.graph.result (λ g. g.now)
    (c.graph.ensures.graph t c.know_table.ensures c.requires.row.function) (sym c.if-is_some.ensures)
