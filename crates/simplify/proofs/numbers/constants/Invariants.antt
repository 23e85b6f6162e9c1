use Rattle.std.proofs.Common.{◌≡◌, ◌++◌, drop, map, All}
use Rattle.smt_values.specs.Meaning.{scalar_value}
use Rattle.term_table.specs.Formulas.{trees_at}
use Rattle.simplify.specs.Gathering.{values_in, IsWhole}
use Rattle.simplify.proofs.numbers.constants.Given as goal

abbrev pub invariant-loop-id : goal.invariant-loop-id
invariant-loop-id l = record {
  values : map scalar_value l.constants.items ++ values_in (trees_at l.table (drop l.id-index l.ids)) ≡ map scalar_value l.initial.constants.items ++ values_in (trees_at l.table l.ids);
  constants : All IsWhole l.constants.items;
}
