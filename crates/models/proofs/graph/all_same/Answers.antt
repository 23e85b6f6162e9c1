use Rattle.std.proofs.Common.{refl}
use Rattle.smt_values.specs.SizeTable.{sizes_by}
use Rattle.smt_values.specs.SortIds.{sort_at}
use Rattle.models.proofs.RowsAlike.{keys-length, key_at}
use Rattle.models.proofs.graph.all_same.Goals as goal

pub loop-place-init : goal.loop-place-init
loop-place-init c = record {
  left = keys-length (sizes_by c.args.sorts.now c.args.sizes.now) (sort_at c.args.sorts.now) c.args.args.now c.args.a.now c.requires.a.valid;
  right = keys-length (sizes_by c.args.sorts.now c.args.sizes.now) (sort_at c.args.sorts.now) c.args.args.now c.args.b.now c.requires.b.valid;
  rest = refl;
}

pub same-requires-clause-a : goal.same-requires-clause-a
same-requires-clause-a c =
    key_at (sizes_by c.args.sorts.now c.args.sizes.now) (sort_at c.args.sorts.now) c.args.args.now c.args.a.now c.loop-place.place _ c.index-a-place.result c.loop-place-test.true c.requires.a c.index-a-place.is

pub same-requires-clause-b : goal.same-requires-clause-b
same-requires-clause-b c =
    key_at (sizes_by c.args.sorts.now c.args.sizes.now) (sort_at c.args.sorts.now) c.args.args.now c.args.b.now c.loop-place.place _ c.index-b-place.result c.loop-place-test.true c.requires.b c.index-b-place.is
