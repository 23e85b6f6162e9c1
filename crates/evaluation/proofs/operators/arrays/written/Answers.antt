use Rattle.std.proofs.Common.{◌≡◌, ◌∙◌, sym, ap, subst, [], ◌∷◌, get_or, IfOk}
use Rattle.smt_terms.specs.Operators.{index_sort, first_value, second_value, third_value}
use Rattle.smt_terms.specs.Rank.{element_sort}
use Rattle.smt_terms.specs.Values.{is_value, store}
use Rattle.smt_values.specs.Meaning.{meaning}
use Rattle.smt_values.specs.SizeTable.{sizes_by}
use Rattle.smt_values.specs.SortIds.{sort_at}
use Rattle.smt_values.specs.Tables.{as_value}
use Rattle.smt_values.specs.Valid.{IsValue}
use Rattle.smt_values.proofs.Sameness.{table_keys}
use Rattle.models.specs.GraphRows.{meanings}
use Rattle.evaluation.proofs.OperandPlaces.{taken-out, array-told, first-valued, second-valued}
use Rattle.evaluation.proofs.operators.arrays.written.Goals as goal

pub unreachable-requires-in_default-swap_remove : goal.unreachable-requires-in_default-swap_remove
unreachable-requires-in_default-swap_remove c =
    let s = sort_at c.args.sorts.now c.args.sort in
    let sizes = sizes_by c.args.sorts.now c.args.sizes.now in
    let all = taken-out c.args.args.items _ _ c.swap_remove.result c.swap_remove-key.result c.swap_remove-value.result _ _ c.requires.three c.swap_remove-value.ensures.value c.swap_remove-value.ensures.items c.swap_remove-key.ensures.value c.swap_remove-key.ensures.items c.swap_remove.ensures.value in
    let first = first-valued sizes s (index_sort s ∷ element_sort s ∷ []) c.args.args.items c.swap_remove.result c.requires.args (ap (λ vs. get_or vs 0 c.swap_remove.result) (sym all)) in
    array-told (sort_at c.args.sorts.now c.in-Some.index) (sort_at c.args.sorts.now c.in-Some.field-0-1) sizes c.swap_remove.result
    (ap (λ r. is_value r sizes (meaning c.swap_remove.result)) (sym c.in-Some.ensures.parts) ∙ first.valid) c.in_default-swap_remove.not-Array

pub store-requires-clause-key : goal.store-requires-clause-key
store-requires-clause-key c =
    let s = sort_at c.args.sorts.now c.args.sort in
    let sizes = sizes_by c.args.sorts.now c.args.sizes.now in
    let all = taken-out c.args.args.items _ _ c.swap_remove.result c.swap_remove-key.result c.swap_remove-value.result _ _ c.requires.three c.swap_remove-value.ensures.value c.swap_remove-value.ensures.items c.swap_remove-key.ensures.value c.swap_remove-key.ensures.items c.swap_remove.ensures.value in
    subst (λ r. IsValue r sizes c.swap_remove-key.result) (ap index_sort c.in-Some.ensures.parts)
    (second-valued sizes s (index_sort s) (element_sort s ∷ []) c.args.args.items c.swap_remove-key.result c.requires.args (ap (λ vs. get_or vs 1 c.swap_remove-key.result) (sym all)))

pub store-requires-clause-keys : goal.store-requires-clause-keys
store-requires-clause-keys c =
    let s = sort_at c.args.sorts.now c.args.sort in
    let sizes = sizes_by c.args.sorts.now c.args.sizes.now in
    let all = taken-out c.args.args.items _ _ c.swap_remove.result c.swap_remove-key.result c.swap_remove-value.result _ _ c.requires.three c.swap_remove-value.ensures.value c.swap_remove-value.ensures.items c.swap_remove-key.ensures.value c.swap_remove-key.ensures.items c.swap_remove.ensures.value in
    let first = first-valued sizes s (index_sort s ∷ element_sort s ∷ []) c.args.args.items c.swap_remove.result c.requires.args (ap (λ vs. get_or vs 0 c.swap_remove.result) (sym all)) in
    table_keys (sort_at c.args.sorts.now c.in-Some.index) (sort_at c.args.sorts.now c.in-Some.field-0-1) sizes c.into_inner.result
    ((λ j. is_value (sym c.in-Some.ensures.parts j) sizes (as_value (c.into_inner.ensures j))) ∙ ap (λ v. is_value s sizes (meaning v)) (sym c.in-Array.is) ∙ first.valid)

pub returns-clause-value : goal.returns-clause-value
returns-clause-value c =
    let sizes = sizes_by c.args.sorts.now c.args.sizes.now in
    let all = taken-out c.args.args.items _ _ c.swap_remove.result c.swap_remove-key.result c.swap_remove-value.result _ _ c.requires.three c.swap_remove-value.ensures.value c.swap_remove-value.ensures.items c.swap_remove-key.ensures.value c.swap_remove-key.ensures.items c.swap_remove.ensures.value in
    let from : first_value (meanings c.args.args.items) ≡ as_value c.into_inner.result = ap (λ vs. first_value (meanings vs)) all ∙ ap meaning c.in-Array.is ∙ ap as_value (sym c.into_inner.ensures) in
    let key = ap (λ vs. second_value (meanings vs)) all in
    let value = ap (λ vs. third_value (meanings vs)) all in
    subst (λ v. IfOk c.boxed.result (λ w. meaning w ≡ v))
    (c.in_ok-array.ensures ∙ (λ i. store (ap index_sort (sym c.in-Some.ensures.parts) i) sizes (sym from i) (sym key i) (sym value i))) c.boxed.ensures.value
