use Rattle.std.specs.Prelude.{IsTrue}
use Rattle.smt_terms.specs.Sorts.{array, int}
use Rattle.smt_terms.specs.Values.{is_value}
use Rattle.smt_values.specs.SizeTable.{sizes_by}
use Rattle.smt_values.specs.Tables.{as_value}
use Rattle.smt_values_tests.proofs.tests.arrays.filled.Given as goal

abbrev pub invariant-loop-key : goal.invariant-loop-key
invariant-loop-key l = IsTrue (is_value (array int int) (sizes_by l.sorts l.sizes) (as_value l.numbers))
