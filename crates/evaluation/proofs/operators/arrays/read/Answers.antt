use Rattle.std.proofs.Common.{◌≡◌, ◌∙◌, sym, ap, subst, arith, [], ◌∷◌, IfOk}
use Rattle.smt_terms.specs.Operators.{index_sort}
use Rattle.smt_terms.specs.Values.{is_value, select}
use Rattle.smt_values.specs.Meaning.{meaning}
use Rattle.smt_values.specs.SizeTable.{sizes_by}
use Rattle.smt_values.specs.SortIds.{sort_at}
use Rattle.smt_values.specs.Tables.{as_value}
use Rattle.smt_values.specs.Valid.{IsValue}
use Rattle.smt_values.proofs.Sameness.{table_keys}
use Rattle.evaluation.proofs.OperandPlaces.{first-at, second-at, first-valued, second-valued}
use Rattle.evaluation.proofs.operators.arrays.read.Goals as goal

pub select-requires-clause-key : goal.select-requires-clause-key
select-requires-clause-key c =
    let s = sort_at c.args.sorts.now c.args.sort in
    let sizes = sizes_by c.args.sorts.now c.args.sizes.now in
    subst (λ r. IsValue r sizes c.index-args-1.result) (ap index_sort c.in-Some.ensures.parts) (second-valued sizes s (index_sort s) [] c.args.args.now c.index-args-1.result c.requires.args c.index-args-1.is)

pub select-requires-clause-keys : goal.select-requires-clause-keys
select-requires-clause-keys c =
    let s = sort_at c.args.sorts.now c.args.sort in
    let sizes = sizes_by c.args.sorts.now c.args.sizes.now in
    let whole = (first-valued sizes s (index_sort s ∷ []) c.args.args.now c.index-args-0.result c.requires.args c.index-args-0.is).valid in
    let i = sort_at c.args.sorts.now c.in-Some.index in
    let e = sort_at c.args.sorts.now c.in-Some.field-0-1 in
    table_keys i e sizes c.deref.result.now
    ((λ j. is_value (sym c.in-Some.ensures.parts j) sizes (as_value (c.deref.ensures j))) ∙ ap (λ v. is_value s sizes (meaning v)) (sym c.in-Array.is) ∙ whole)

pub returns-clause-value : goal.returns-clause-value
returns-clause-value c =
    let two = c.requires.two in
    let s = sort_at c.args.sorts.now c.args.sort in
    let sizes = sizes_by c.args.sorts.now c.args.sizes.now in
    let from = first-at c.args.args.now c.index-args-0.result (omega (arith, two)) c.index-args-0.is ∙ ap meaning c.in-Array.is ∙ ap as_value (sym c.deref.ensures) in
    let key = second-at c.args.args.now c.index-args-1.result (omega (arith, two)) c.index-args-1.is in
    subst (λ v. IfOk c.copy_value.result (λ w. meaning w ≡ v)) (c.select.ensures.value ∙ (λ i. select (ap index_sort (sym c.in-Some.ensures.parts) i) sizes (sym from i) (sym key i))) c.copy_value.ensures.value
