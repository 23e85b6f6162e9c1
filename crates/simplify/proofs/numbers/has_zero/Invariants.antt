use Rattle.std.proofs.Common.{◌≡◌, drop, pos}
use Rattle.std.specs.List.{list_any}
use Rattle.term_table.specs.Formulas.{trees_at}
use Rattle.simplify.specs.Folding.{is_whole}
use Rattle.simplify.proofs.numbers.has_zero.Given as goal

abbrev pub invariant-loop-id : goal.invariant-loop-id
invariant-loop-id l = list_any (is_whole (pos 0)) (trees_at l.table (drop l.id-index l.ids)) ≡ list_any (is_whole (pos 0)) (trees_at l.table l.ids)
