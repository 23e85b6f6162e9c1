use Rattle.std.proofs.Common.{◌∙◌, ap, map, is_some}
use Rattle.smt_values.specs.SizeTable.{sizes_by}
use Rattle.smt_values.specs.SortIds.{sort_at}
use Rattle.models.specs.GraphRows.{meanings}
use Rattle.models.proofs.RowKeys.{has_row-place}
use Rattle.models.proofs.graph.Graph.has_row.Goals as goal

pub returns : goal.returns
returns c =
    c.is_some.ensures
    ∙ ap is_some c.find.ensures.place
    ∙ has_row-place (map (sort_at c.args.sorts.now) c.args.args.now) (sizes_by c.args.sorts.now c.args.sizes.now) (meanings c.args.keys.now) c.args.self.now.rows
