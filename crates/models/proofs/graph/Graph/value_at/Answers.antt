use Rattle.std.proofs.Common.{◌∙◌, sym, ap, map}
use Rattle.smt_terms.specs.Models.{Graph, graph_value}
use Rattle.smt_values.specs.SizeTable.{sizes_by}
use Rattle.smt_values.specs.SortIds.{sort_at}
use Rattle.smt_values.specs.Meaning.{meaning}
use Rattle.models.specs.GraphRows.{meanings}
use Rattle.models.specs.RowKeys.{row_place}
use Rattle.models.proofs.RowKeys.{value-nowhere, value-place}
use Rattle.models.proofs.graph.Graph.value_at.Goals as goal

pub returns-in-Some-clause-value : goal.returns-in-Some-clause-value
returns-in-Some-clause-value c =
    let args = map (sort_at c.args.sorts.now) c.args.args.now in
    let sizes = sizes_by c.args.sorts.now c.args.sizes.now in
    let keys = meanings c.args.keys.now in
    let inside = c.self.inside in
    let place = ap (λ (g : Graph). row_place args sizes keys g.rows) c.self.view_is ∙ sym c.find.ensures.place ∙ c.in-Some.is in
    sym (value-place args sizes keys inside.rows.items (meaning inside.otherwise) c.in-Some.i c.index.result.now place c.index.ensures)
    ∙ ap (λ (g : Graph). graph_value args sizes g keys) c.self.view_is

pub returns-in-None-clause-value : goal.returns-in-None-clause-value
returns-in-None-clause-value c =
    ap (λ (g : Graph). g.otherwise) c.self.view_is
    ∙ sym (value-nowhere (map (sort_at c.args.sorts.now) c.args.args.now) (sizes_by c.args.sorts.now c.args.sizes.now) c.args.self.now (meanings c.args.keys.now) (sym c.find.ensures.place ∙ c.in-None.is))
