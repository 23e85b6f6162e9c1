use Rattle.std.proofs.Common.{◌≡◌, ◌++◌, drop, filter, All}
use Rattle.term_table.specs.Formulas.{trees_at}
use Rattle.simplify.specs.Gathering.{is_other}
use Rattle.simplify.specs.NodesOfSorts.{IsNumber}
use Rattle.simplify.proofs.numbers.others.Given as goal

abbrev pub invariant-loop-id : goal.invariant-loop-id
invariant-loop-id l = record {
  terms : trees_at l.table l.others.items ++ filter is_other (trees_at l.table (drop l.id-index l.ids)) ≡ filter is_other (trees_at l.table l.ids);
  numbers : All (IsNumber l.table) l.others.items;
}
