use Rattle.std.proofs.Common.{◌∙◌, sym, subst}
use Rattle.smt_terms.specs.Models.{IsModel}
use Rattle.smt_values.specs.Meaning.{meaning}
use Rattle.smt_values.specs.SizeTable.{sizes_by}
use Rattle.term_table.specs.Formulas.{symbol_at}
use Rattle.models.specs.GraphRows.{meanings}
use Rattle.models.specs.ModelView.{graph_in, model_at}
use Rattle.models.proofs.NumberedGraphs.{graph_of_symbol}
use Rattle.models.proofs.RowsOfGraphs.{on_ok, row_there, row_new, row_new_valid, seen_keys}
use Rattle.models.proofs.model.Model.add_row.Goals as goal

pub returns-then-has_row-clause-model : goal.returns-then-has_row-clause-model
returns-then-has_row-clause-model c =
    let t = c.args.table.now in
    let m = c.args.self.now in
    row_there (model_at t m) (symbol_at t c.args.s) (meanings c.args.keys.items) (meaning c.args.value) (graph_in m.graphs c.args.s)
    (graph_of_symbol t c.has_row.ensures.table c.args.s c.requires.symbol m.graphs) c.requires.there c.has_row.result
    (seen_keys (symbol_at t c.args.s).args (sizes_by t.sorts m.sizes) c.as_slice.result.now c.args.keys.items c.as_slice.ensures.value (graph_in m.graphs c.args.s) c.has_row.result c.has_row.ensures.row) c.if-has_row.true

pub returns-clause-model : goal.returns-clause-model
returns-clause-model c =
    let t = c.args.table.now in
    let m = c.args.self.now in
    on_ok c.push_row.result c.push_row.ensures.model
    (λ model.
    model t c.has_row.ensures.table c.requires.symbol
    ∙ row_new (model_at t m) (symbol_at t c.args.s) (meanings c.args.keys.items) (meaning c.args.value) (graph_in m.graphs c.args.s)
    (graph_of_symbol t c.has_row.ensures.table c.args.s c.requires.symbol m.graphs) c.requires.there c.has_row.result
    (seen_keys (symbol_at t c.args.s).args (sizes_by t.sorts m.sizes) c.as_slice.result.now c.args.keys.items c.as_slice.ensures.value (graph_in m.graphs c.args.s) c.has_row.result c.has_row.ensures.row) c.if-has_row.false)

pub returns-clause-valid : goal.returns-clause-valid
returns-clause-valid c =
    let t = c.args.table.now in
    let m = c.args.self.now in
    on_ok c.push_row.result c.push_row.ensures.model
    (λ model.
    subst IsModel (sym (model t c.has_row.ensures.table c.requires.symbol))
    (row_new_valid (model_at t m) (symbol_at t c.args.s) (meanings c.args.keys.items) (meaning c.args.value) (graph_in m.graphs c.args.s)
    (graph_of_symbol t c.has_row.ensures.table c.args.s c.requires.symbol m.graphs) c.requires.there c.has_row.result
    (seen_keys (symbol_at t c.args.s).args (sizes_by t.sorts m.sizes) c.as_slice.result.now c.args.keys.items c.as_slice.ensures.value (graph_in m.graphs c.args.s) c.has_row.result c.has_row.ensures.row) c.if-has_row.false
    c.requires.valid c.requires.arguments c.requires.keys.valid c.requires.value.valid))
