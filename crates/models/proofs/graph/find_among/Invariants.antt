use Rattle.std.proofs.Common.{◌≡◌, map, drop}
use Rattle.std.specs.List.{position_from}
use Rattle.smt_terms.specs.Values.{all_same}
use Rattle.smt_values.specs.SizeTable.{sizes_by}
use Rattle.smt_values.specs.SortIds.{sort_at}
use Rattle.models.specs.GraphRows.{meanings, rows_of}
use Rattle.models.specs.RowKeys.{row_place}
use Rattle.models.proofs.graph.find_among.Given as goal

-- the place is that among the rows that are left
abbrev pub invariant-loop-i : goal.invariant-loop-i
invariant-loop-i l =
    row_place (map (sort_at l.sorts) l.args) (sizes_by l.sorts l.sizes) (meanings l.keys) (rows_of l.rows)
    ≡ position_from (λ r. all_same (map (sort_at l.sorts) l.args) (sizes_by l.sorts l.sizes) r.keys (meanings l.keys)) l.i (rows_of (drop l.i l.rows))
