use Rattle.smt_terms.specs.Sorts.{int}
use Rattle.smt_values.specs.SizeTable.{sizes_by}
use Rattle.smt_values.proofs.Sameness.{table_keys}
use Rattle.smt_values_tests.proofs.tests.arrays.reads.Goals as goal

pub select-requires-clause-keys : goal.select-requires-clause-keys
select-requires-clause-keys c = table_keys int int (sizes_by c.args.sorts.now c.args.sizes.now) c.args.numbers.now c.requires.numbers
