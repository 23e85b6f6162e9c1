use Rattle.std.proofs.Common.{map, subst, sym}
use Rattle.smt_values.specs.SizeTable.{sizes_by}
use Rattle.smt_values.specs.SortIds.{sort_at}
use Rattle.models.specs.GraphRows.{AreValues}
use Rattle.models.proofs.RowsAlike.{row_keys}
use Rattle.models.proofs.graph.find_among.Goals as goal

pub all_same-requires-clause-a : goal.all_same-requires-clause-a
all_same-requires-clause-a c =
    let args = map (sort_at c.args.sorts.now) c.args.args.now in
    let sizes = sizes_by c.args.sorts.now c.args.sizes.now in
    subst (AreValues args sizes) (sym c.as_slice.ensures.value)
    (row_keys args sizes c.args.rows.now c.loop-i.i c.index-rows-i.result c.loop-i-test.true c.index-rows-i.is c.requires.held c.requires.rows)
