use Rattle.std.proofs.Common.{◌≡◌, ◌∙◌, sym, ap, subst, map, List}
use Rattle.smt_terms.specs.Sorts.{Sort}
use Rattle.smt_values.specs.SizeTable.{sizes_by}
use Rattle.smt_values.specs.SortIds.{sort_at}
use Rattle.term_table.specs.Formulas.{symbol_at}
use Rattle.models.specs.GraphRows.{HaveKeys}
use Rattle.models.specs.ModelView.{ModelLists}
use Rattle.models.proofs.RowsOfGraphs.{keys_in}
use Rattle.models.proofs.model.Model.has_row.Goals as goal

pub has_row-requires-clause-rows : goal.has_row-requires-clause-rows
has_row-requires-clause-rows c =
    let t = c.args.table.now in
    let m = c.args.self.now in
    let keys = keys_in t c.symbol_rank.ensures.table m c.args.s c.requires.symbol c.in-Some.graph.now c.in-Some.ensures.listed c.requires.valid in
    let args : (symbol_at t c.args.s).args ≡ map (sort_at c.sorts.result.now) c.symbol_rank.result.0.now =
    sym (ap (λ (ss : List Sort). map (sort_at ss) c.symbol_rank.result.0.now) c.sorts.ensures ∙ c.symbol_rank.ensures.args) in
    let sizes : sizes_by t.sorts m.sizes ≡ sizes_by c.sorts.result.now c.self.inside.sizes =
    sym (ap (λ (ss : List Sort). sizes_by ss c.self.inside.sizes) c.sorts.ensures ∙ ap (λ (l : ModelLists). sizes_by t.sorts l.sizes) c.self.view_is) in
    subst (λ ss. HaveKeys (map (sort_at c.sorts.result.now) c.symbol_rank.result.0.now) ss c.in-Some.graph.now.rows) sizes
    (subst (λ ss. HaveKeys ss (sizes_by t.sorts m.sizes) c.in-Some.graph.now.rows) args keys)
