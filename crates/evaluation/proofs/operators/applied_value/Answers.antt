use Rattle.std.proofs.Common.{◌≡◌, subst, IfOk, IfSome, IfNone, IsFalse}
use Rattle.smt_terms.specs.Val.{value_in_range}
use Rattle.smt_values.specs.Meaning.{meaning}
use Rattle.term_table.specs.Formulas.{tree}
use Rattle.evaluation.proofs.AppliedNodes.{no-binder}
use Rattle.evaluation.proofs.HeadValues.{symbol-number, symbol-args, symbol-is, filled-one, filled-is, equal-there, equal-two, equal-args, equal-is, distinct-there, distinct-args, distinct-is, choice-three, choice-is, select-there, select-two, select-array, select-args, select-is, store-there, store-three, store-array, store-args, store-is, scalar-takes, scalar-held, scalar-is}
use Rattle.evaluation.proofs.ScalarLaws.{NoOther}
use Rattle.evaluation.proofs.operators.applied_value.Goals as goal

pub symbol_value-requires-clause-symbol : goal.symbol_value-requires-clause-symbol
symbol_value-requires-clause-symbol c =
    symbol-number c.args.table.now c.op.result c.in-Sym.symbol c.in-Sym.is c.op.ensures.numbers

pub symbol_value-requires-clause-args : goal.symbol_value-requires-clause-args
symbol_value-requires-clause-args c =
    symbol-args c.args.table.now c.know_table.ensures c.args.id c.requires.node c.op.result c.op.ensures.term c.args.model.now c.args.args.items c.requires.args c.in-Sym.symbol c.in-Sym.is c.as_slice.result.now c.as_slice.ensures.value

pub filled-requires-clause-one : goal.filled-requires-clause-one
filled-requires-clause-one c =
    filled-one c.args.table.now c.know_table.ensures c.args.id c.requires.node c.op.result c.op.ensures.term c.args.model.now c.args.args.items c.requires.args c.in-ConstArray.field-0 c.in-ConstArray.is

pub first_sort-requires-clause-there : goal.first_sort-requires-clause-there
first_sort-requires-clause-there c =
    equal-there c.args.table.now c.know_table.ensures c.args.id c.requires.node c.op.result c.op.ensures.term c.args.model.now c.args.args.items c.requires.args c.in-Equal.is

pub are_equal-equal-requires-clause-two : goal.are_equal-equal-requires-clause-two
are_equal-equal-requires-clause-two c =
    equal-two c.args.table.now c.know_table.ensures c.args.id c.requires.node c.op.result c.op.ensures.term c.args.model.now c.args.args.items c.requires.args c.in-Equal.is c.as_slice-in-Equal.result.now c.as_slice-in-Equal.ensures.value

pub are_equal-equal-requires-clause-args : goal.are_equal-equal-requires-clause-args
are_equal-equal-requires-clause-args c =
    equal-args c.args.table.now c.know_table.ensures c.args.id c.requires.node c.op.result c.op.ensures.term c.args.model.now c.args.args.items c.requires.args c.in-Equal.is c.sorts-sorts.result.now c.sizes-sizes.result.now c.as_slice-in-Equal.result.now c.first_sort.result c.sorts-sorts.ensures c.sizes-sizes.ensures c.as_slice-in-Equal.ensures.value c.first_sort.ensures.sort

pub first_sort-requires-in-Distinct-clause-there : goal.first_sort-requires-in-Distinct-clause-there
first_sort-requires-in-Distinct-clause-there c =
    distinct-there c.args.table.now c.know_table.ensures c.args.id c.requires.node c.op.result c.op.ensures.term c.args.model.now c.args.args.items c.requires.args c.in-Distinct.is

pub are_distinct-distinct-requires-clause-args : goal.are_distinct-distinct-requires-clause-args
are_distinct-distinct-requires-clause-args c =
    distinct-args c.args.table.now c.know_table.ensures c.args.id c.requires.node c.op.result c.op.ensures.term c.args.model.now c.args.args.items c.requires.args c.in-Distinct.is c.sorts-sorts.result.now c.sizes-sizes.result.now c.as_slice-in-Distinct.result.now c.first_sort-in-Distinct.result c.sorts-sorts.ensures c.sizes-sizes.ensures c.as_slice-in-Distinct.ensures.value c.first_sort-in-Distinct.ensures.sort

pub chosen-requires-clause-three : goal.chosen-requires-clause-three
chosen-requires-clause-three c =
    choice-three c.args.table.now c.know_table.ensures c.args.id c.requires.node c.op.result c.op.ensures.term c.args.model.now c.args.args.items c.requires.args c.in-Ite.is

pub first_sort-requires-in-Select-clause-there : goal.first_sort-requires-in-Select-clause-there
first_sort-requires-in-Select-clause-there c =
    select-there c.args.table.now c.know_table.ensures c.args.id c.requires.node c.op.result c.op.ensures.term c.args.model.now c.args.args.items c.requires.args c.in-Select.is

pub read-requires-clause-array : goal.read-requires-clause-array
read-requires-clause-array c =
    select-array c.args.table.now c.know_table.ensures c.args.id c.requires.node c.op.result c.op.ensures.term c.args.model.now c.args.args.items c.requires.args c.in-Select.is c.sorts-sorts.result.now c.sizes-sizes.result.now c.as_slice-in-Select.result.now c.first_sort-in-Select.result c.sorts-sorts.ensures c.sizes-sizes.ensures c.as_slice-in-Select.ensures.value c.first_sort-in-Select.ensures.sort

pub read-requires-clause-two : goal.read-requires-clause-two
read-requires-clause-two c =
    select-two c.args.table.now c.know_table.ensures c.args.id c.requires.node c.op.result c.op.ensures.term c.args.model.now c.args.args.items c.requires.args c.in-Select.is c.as_slice-in-Select.result.now c.as_slice-in-Select.ensures.value

pub read-requires-clause-args : goal.read-requires-clause-args
read-requires-clause-args c =
    select-args c.args.table.now c.know_table.ensures c.args.id c.requires.node c.op.result c.op.ensures.term c.args.model.now c.args.args.items c.requires.args c.in-Select.is c.sorts-sorts.result.now c.sizes-sizes.result.now c.as_slice-in-Select.result.now c.first_sort-in-Select.result c.sorts-sorts.ensures c.sizes-sizes.ensures c.as_slice-in-Select.ensures.value c.first_sort-in-Select.ensures.sort

pub first_sort-requires-in-Store-clause-there : goal.first_sort-requires-in-Store-clause-there
first_sort-requires-in-Store-clause-there c =
    store-there c.args.table.now c.know_table.ensures c.args.id c.requires.node c.op.result c.op.ensures.term c.args.model.now c.args.args.items c.requires.args c.in-Store.is

pub written-requires-clause-array : goal.written-requires-clause-array
written-requires-clause-array c =
    store-array c.args.table.now c.know_table.ensures c.args.id c.requires.node c.op.result c.op.ensures.term c.args.model.now c.args.args.items c.requires.args c.in-Store.is c.sorts-sorts.result.now c.sizes-sizes.result.now c.first_sort-in-Store.result c.sorts-sorts.ensures c.sizes-sizes.ensures c.first_sort-in-Store.ensures.sort

pub written-requires-clause-three : goal.written-requires-clause-three
written-requires-clause-three c =
    store-three c.args.table.now c.know_table.ensures c.args.id c.requires.node c.op.result c.op.ensures.term c.args.model.now c.args.args.items c.requires.args c.in-Store.is

pub written-requires-clause-args : goal.written-requires-clause-args
written-requires-clause-args c =
    store-args c.args.table.now c.know_table.ensures c.args.id c.requires.node c.op.result c.op.ensures.term c.args.model.now c.args.args.items c.requires.args c.in-Store.is c.sorts-sorts.result.now c.sizes-sizes.result.now c.first_sort-in-Store.result c.sorts-sorts.ensures c.sizes-sizes.ensures c.first_sort-in-Store.ensures.sort

pub value_at_scalars-requires : goal.value_at_scalars-requires
value_at_scalars-requires c =
    let binder = no-binder c.args.table.now c.op.result (tree c.args.table.now c.args.id) c.requires.applied c.op.ensures.term in
    let none : NoOther c.op.result = record {
      is_symbol = c.in_default.not-Sym;
      is_filled = c.in_default.not-ConstArray;
      is_forall = binder.is_forall;
      is_exists = binder.is_exists;
      is_equal = c.in_default.not-Equal;
      is_distinct = c.in_default.not-Distinct;
      is_ite = c.in_default.not-Ite;
      is_select = c.in_default.not-Select;
      is_store = c.in_default.not-Store;
    } in
    record { operands = scalar-takes c.args.table.now c.know_table.ensures c.args.id c.requires.node c.op.result c.op.ensures.term c.args.model.now c.args.args.items c.requires.args none c.as_slice-in_default.result.now c.as_slice-in_default.ensures.value; scalars = scalar-held c.args.table.now c.know_table.ensures c.args.id c.requires.node c.op.result c.op.ensures.term c.args.model.now c.args.args.items c.requires.args none c.as_slice-in_default.result.now c.as_slice-in_default.ensures.value }

pub returns-in_default : goal.returns-in_default
returns-in_default c =
    let binder = no-binder c.args.table.now c.op.result (tree c.args.table.now c.args.id) c.requires.applied c.op.ensures.term in
    let none : NoOther c.op.result = record {
      is_symbol = c.in_default.not-Sym;
      is_filled = c.in_default.not-ConstArray;
      is_forall = binder.is_forall;
      is_exists = binder.is_exists;
      is_equal = c.in_default.not-Equal;
      is_distinct = c.in_default.not-Distinct;
      is_ite = c.in_default.not-Ite;
      is_select = c.in_default.not-Select;
      is_store = c.in_default.not-Store;
    } in
    let is = scalar-is c.args.table.now c.know_table.ensures c.args.id c.requires.node c.op.result c.op.ensures.term c.args.model.now c.args.args.items c.requires.args none c.as_slice-in_default.result.now c.as_slice-in_default.ensures.value in
    record {
      value = subst (λ x. IfOk c.value_at_scalars.result (λ found. IfSome found (λ v. meaning v ≡ x))) is (c.value_at_scalars.ensures.value c.args.table.now);
      held = c.value_at_scalars.ensures.held;
      beyond = subst (λ x. IfOk c.value_at_scalars.result (λ found. IfNone found (IsFalse (value_in_range x)))) is (c.value_at_scalars.ensures.beyond c.args.table.now);
    }

pub returns-in_ok-symbol_value-in-Sym-clause-value : goal.returns-in_ok-symbol_value-in-Sym-clause-value
returns-in_ok-symbol_value-in-Sym-clause-value c =
    symbol-is c.args.table.now c.know_table.ensures c.args.id c.requires.node c.op.result c.op.ensures.term c.args.model.now c.args.args.items c.requires.args c.in-Sym.symbol c.in-Sym.is c.as_slice.result.now (meaning c.in_ok-symbol_value-in-Sym.field-0) c.as_slice.ensures.value c.in_ok-symbol_value-in-Sym.ensures.value

pub returns-in_ok-filled-in-ConstArray-clause-value : goal.returns-in_ok-filled-in-ConstArray-clause-value
returns-in_ok-filled-in-ConstArray-clause-value c =
    filled-is c.args.table.now c.know_table.ensures c.args.id c.requires.node c.op.result c.op.ensures.term c.args.model.now c.args.args.items c.requires.args c.in-ConstArray.field-0 c.in-ConstArray.is (meaning c.in_ok-filled-in-ConstArray.field-0) c.in_ok-filled-in-ConstArray.ensures.value

pub returns-in-Equal-clause-value : goal.returns-in-Equal-clause-value
returns-in-Equal-clause-value c =
    equal-is c.args.table.now c.know_table.ensures c.args.id c.requires.node c.op.result c.op.ensures.term c.args.model.now c.args.args.items c.requires.args c.in-Equal.is c.sorts-sorts.result.now c.sizes-sizes.result.now c.as_slice-in-Equal.result.now c.first_sort.result c.sorts-sorts.ensures c.sizes-sizes.ensures c.as_slice-in-Equal.ensures.value c.first_sort.ensures.sort (meaning c.truth.result) c.are_equal-equal.result c.truth.ensures.value c.are_equal-equal.ensures

pub returns-in-Distinct-clause-value : goal.returns-in-Distinct-clause-value
returns-in-Distinct-clause-value c =
    distinct-is c.args.table.now c.know_table.ensures c.args.id c.requires.node c.op.result c.op.ensures.term c.args.model.now c.args.args.items c.requires.args c.in-Distinct.is c.sorts-sorts.result.now c.sizes-sizes.result.now c.as_slice-in-Distinct.result.now c.first_sort-in-Distinct.result c.sorts-sorts.ensures c.sizes-sizes.ensures c.as_slice-in-Distinct.ensures.value c.first_sort-in-Distinct.ensures.sort (meaning c.truth-in-Distinct.result) c.are_distinct-distinct.result c.truth-in-Distinct.ensures.value c.are_distinct-distinct.ensures

pub returns-in-Ite-clause-value : goal.returns-in-Ite-clause-value
returns-in-Ite-clause-value c =
    choice-is c.args.table.now c.know_table.ensures c.args.id c.requires.node c.op.result c.op.ensures.term c.args.model.now c.args.args.items c.requires.args c.in-Ite.is (meaning c.chosen.result) c.chosen.ensures.value

pub returns-in_ok-value-in-Select-clause-value : goal.returns-in_ok-value-in-Select-clause-value
returns-in_ok-value-in-Select-clause-value c =
    select-is c.args.table.now c.know_table.ensures c.args.id c.requires.node c.op.result c.op.ensures.term c.args.model.now c.args.args.items c.requires.args c.in-Select.is c.sorts-sorts.result.now c.sizes-sizes.result.now c.as_slice-in-Select.result.now c.first_sort-in-Select.result c.sorts-sorts.ensures c.sizes-sizes.ensures c.as_slice-in-Select.ensures.value c.first_sort-in-Select.ensures.sort (meaning c.in_ok-value-in-Select.value) c.in_ok-value-in-Select.ensures.value

pub returns-in_ok-array-in-Store-clause-value : goal.returns-in_ok-array-in-Store-clause-value
returns-in_ok-array-in-Store-clause-value c =
    store-is c.args.table.now c.know_table.ensures c.args.id c.requires.node c.op.result c.op.ensures.term c.args.model.now c.args.args.items c.requires.args c.in-Store.is c.sorts-sorts.result.now c.sizes-sizes.result.now c.first_sort-in-Store.result c.sorts-sorts.ensures c.sizes-sizes.ensures c.first_sort-in-Store.ensures.sort (meaning c.in_ok-array-in-Store.array) c.in_ok-array-in-Store.ensures.value
