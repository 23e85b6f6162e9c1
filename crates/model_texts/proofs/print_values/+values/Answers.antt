use Rattle.std.proofs.Common.{rules, ◌≡◌, ◌++◌, ◌∙◌, ap, sym, subst, true, arith}
use Rattle.std.specs.Prelude.{OnOk}
use Rattle.smt_lex.specs.FormText.{form_text}
use Rattle.smt_terms.specs.Sorts.{array}
use Rattle.smt_terms.specs.Values.{is_value}
use Rattle.smt_values.specs.Meaning.{meaning, IsHeld}
use Rattle.smt_values.specs.SortIds.{sort_at}
use Rattle.smt_values.specs.Tables.{as_value}
use Rattle.smt_values.specs.declared.value.Value.{Value}
use Rattle.term_table.specs.WrittenForms.{sort_form}
use Rattle.model_texts.specs.ModelLines.{value_form}
use Rattle.model_texts.proofs.PrintedValues.{scalar_written, array_in, array_begun, pair_printed, pairs_end, fallback_of_sort, key_of_sort, value_of_sort}
use Rattle.model_texts.proofs.print_values.+values.Goals as goal

pub push_value-returns-in-Scalar : goal.push_value-returns-in-Scalar
push_value-returns-in-Scalar t c =
    let s = sort_at c.args.table.now.sorts c.args.sort in
    let is = c.in-Scalar.is in
    let sizes = c.requires.value.0 in
    let value = c.requires.value.1 in
    let written = scalar_written s sizes c.in-Scalar.scalar (subst IsHeld is value.held) (subst (λ (v : Value). is_value s sizes (meaning v) ≡ true) is value.valid) ∙ ap (λ (v : Value). value_form s (meaning v)) (sym is) in
    subst (λ f. OnOk c.scalar_text.result (c.scalar_text.new.out.items ≡ c.args.out.now.items ++ form_text f)) written c.scalar_text.ensures.ok

pub push_array-push_value-requires : goal.push_array-push_value-requires
push_array-push_value-requires t c =
    let s = sort_at c.args.table.now.sorts c.args.sort in
    let i = sort_at c.args.table.now.sorts c.in-Some.index in
    let e = sort_at c.args.table.now.sorts c.in-Some.element in
    let parts = array_in c.sorts.result.now c.args.table.now.sorts c.args.sort c.in-Some.index c.in-Some.element c.sorts.ensures c.in-Some.ensures.parts in
    (search rules, (omega (arith, c.in-Some.ensures.element), fallback_of_sort s i e c.requires.value.0 c.args.array.now parts c.requires.value.1 c.fallback.result.now c.fallback.ensures.held c.fallback.ensures.value))

pub push_array-loop-place-init : goal.push_array-loop-place-init
push_array-loop-place-init t c =
    let sorts = c.args.table.now.sorts in
    let s = sort_at sorts c.args.sort in
    let i = sort_at sorts c.in-Some.index in
    let e = sort_at sorts c.in-Some.element in
    let table = c.args.array.now in
    let parts = array_in c.sorts.result.now c.args.table.now.sorts c.args.sort c.in-Some.index c.in-Some.element c.sorts.ensures c.in-Some.ensures.parts in
    array_begun (value_form i) (value_form e) (array i e) (value_form e table.fallback) table.pairs c.len.result c.args.out.now.items c.push_repeated.new.out.items c.extend_from_slice.new.self.items
    c.sort_text.new.out.items c.extend_from_slice-2.new.self.items c.push_value.new.out.items c.push.new.self.items
    c.len.ensures c.in_ok-push_repeated.ensures c.in_ok-extend_from_slice.ensures.items (c.in_ok-sort_text.ensures.ok ∙ ap (λ s. c.extend_from_slice.new.self.items ++ form_text (sort_form s)) parts)
    c.in_ok-extend_from_slice-2.ensures.items (c.in_ok-push_value.ensures ∙ ap (λ v. c.extend_from_slice-2.new.self.items ++ form_text (value_form e v)) c.fallback.ensures.value) c.in_ok-push.ensures.items
    ∙ ap (λ s. c.args.out.now.items ++ form_text (value_form s (as_value table))) (sym parts)

pub push_array-push_value-requires-in-loop-place : goal.push_array-push_value-requires-in-loop-place
push_array-push_value-requires-in-loop-place t c =
    let s = sort_at c.args.table.now.sorts c.args.sort in
    let i = sort_at c.args.table.now.sorts c.in-Some.index in
    let e = sort_at c.args.table.now.sorts c.in-Some.element in
    let parts = array_in c.sorts.result.now c.args.table.now.sorts c.args.sort c.in-Some.index c.in-Some.element c.sorts.ensures c.in-Some.ensures.parts in (
      search rules,
      (
        omega (arith, c.in-Some.ensures.index),
        key_of_sort s i e c.requires.value.0 c.args.array.now parts c.requires.value.1 c.loop-place.place c.pair.result.0.now c.pair.result.1.now c.pair.ensures.key c.pair.ensures.pair,
      ),
    )

pub push_array-push_value-requires-in-loop-place-2 : goal.push_array-push_value-requires-in-loop-place-2
push_array-push_value-requires-in-loop-place-2 t c =
    let s = sort_at c.args.table.now.sorts c.args.sort in
    let i = sort_at c.args.table.now.sorts c.in-Some.index in
    let e = sort_at c.args.table.now.sorts c.in-Some.element in
    let parts = array_in c.sorts.result.now c.args.table.now.sorts c.args.sort c.in-Some.index c.in-Some.element c.sorts.ensures c.in-Some.ensures.parts in (
      search rules,
      (
        omega (arith, c.in-Some.ensures.element),
        value_of_sort s i e c.requires.value.0 c.args.array.now parts c.requires.value.1 c.loop-place.place c.pair.result.0.now c.pair.result.1.now c.pair.ensures.value c.pair.ensures.pair,
      ),
    )

pub push_array-loop-place-preserved : goal.push_array-loop-place-preserved
push_array-loop-place-preserved t c =
    let i = sort_at c.args.table.now.sorts c.in-Some.index in
    let e = sort_at c.args.table.now.sorts c.in-Some.element in
    pair_printed (value_form i) (value_form e) c.args.array.now.pairs c.loop-place.place (meaning c.pair.result.0.now) (meaning c.pair.result.1.now) c.loop-place.out.items _ _ _ _ _ _
    c.pair.ensures.pair c.in_ok-push-2.ensures.items c.in_ok-push_value-2.ensures c.in_ok-push-3.ensures.items c.in_ok-push_value-3.ensures c.in_ok-push-4.ensures.items c.loop-place.invariant

pub push_array-returns : goal.push_array-returns
push_array-returns t c =
    let i = sort_at c.args.table.now.sorts c.in-Some.index in
    let e = sort_at c.args.table.now.sorts c.in-Some.element in
    let many = c.len-place-end.ensures in
    let past = c.loop-place-test.false in
    pairs_end (value_form i) (value_form e) c.args.array.now.pairs c.loop-place.place c.loop-place.out.items _ (omega (arith, many, past)) c.loop-place.invariant
