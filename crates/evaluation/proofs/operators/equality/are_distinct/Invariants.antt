use Rattle.std.proofs.Common.{◌≡◌, drop}
use Rattle.smt_terms.specs.Operators.{all_distinct}
use Rattle.smt_terms.specs.Values.{same}
use Rattle.smt_values.specs.SizeTable.{sizes_by}
use Rattle.smt_values.specs.SortIds.{sort_at}
use Rattle.models.specs.GraphRows.{meanings}
use Rattle.evaluation.proofs.operators.equality.are_distinct.Given as goal

abbrev pub invariant-loop-i : goal.invariant-loop-i
invariant-loop-i l =
    all_distinct (same (sort_at l.sorts l.sort) (sizes_by l.sorts l.sizes)) (meanings l.args)
    ≡ all_distinct (same (sort_at l.sorts l.sort) (sizes_by l.sorts l.sizes)) (meanings (drop l.i l.args))
