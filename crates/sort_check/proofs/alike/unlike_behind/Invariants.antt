use Rattle.std.proofs.Common.{◌≡◌, ◌+◌, drop}
use Rattle.smt_values.specs.SortIds.{sort_at}
use Rattle.term_table.specs.ShapeRank.{kid_sorts}
use Rattle.sort_check.specs.Operands.{unlike}
use Rattle.sort_check.proofs.alike.unlike_behind.Given as goal

abbrev pub invariant-loop-k : goal.invariant-loop-k
invariant-loop-k l =
    unlike (sort_at l.table.sorts l.want) 2 (kid_sorts l.table l.rest) ≡ unlike (sort_at l.table.sorts l.want) (l.k + 2) (drop l.k (kid_sorts l.table l.rest))
