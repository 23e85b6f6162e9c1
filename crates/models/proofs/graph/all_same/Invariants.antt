use Rattle.std.proofs.Common.{◌≡◌, length}
use Rattle.smt_values.specs.SizeTable.{sizes_by}
use Rattle.smt_values.specs.SortIds.{sort_at}
use Rattle.models.proofs.RowsAlike.{same_from}
use Rattle.models.proofs.graph.all_same.Given as goal

abbrev pub invariant-loop-place : goal.invariant-loop-place
invariant-loop-place l = record {
  left : length l.a ≡ length l.args;
  right : length l.b ≡ length l.args;
  rest : same_from (sizes_by l.sorts l.sizes) (sort_at l.sorts) 0 l.args l.a l.b ≡ same_from (sizes_by l.sorts l.sizes) (sort_at l.sorts) l.place l.args l.a l.b;
}
