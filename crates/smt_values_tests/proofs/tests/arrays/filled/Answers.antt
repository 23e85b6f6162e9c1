use Rattle.std.proofs.Common.{◌∙◌, ap}
use Rattle.smt_terms.specs.Sorts.{array, int}
use Rattle.smt_terms.specs.Values.{is_value}
use Rattle.smt_terms.proofs.Valid.{is_value-store}
use Rattle.smt_values.specs.Meaning.{meaning}
use Rattle.smt_values.specs.SizeTable.{sizes_by}
use Rattle.smt_values.specs.Tables.{as_value}
use Rattle.smt_values.proofs.Sameness.{table_keys}
use Rattle.smt_values_tests.proofs.tests.arrays.filled.Goals as goal

pub store-requires-clause-keys : goal.store-requires-clause-keys
store-requires-clause-keys c = table_keys int int (sizes_by c.args.sorts.now c.args.sizes.now) c.loop-key.numbers c.loop-key.invariant

pub loop-key-preserved : goal.loop-key-preserved
loop-key-preserved c =
    let sizes = sizes_by c.args.sorts.now c.args.sizes.now in
    ap (is_value (array int int) sizes) c.in_ok-numbers.ensures
    ∙ is_value-store int int sizes (as_value c.loop-key.numbers) (meaning c.whole.result) (meaning c.whole-value.result) c.loop-key.invariant (ap (is_value int sizes) c.whole.ensures.value) (ap (is_value int sizes) c.whole-value.ensures.value)
