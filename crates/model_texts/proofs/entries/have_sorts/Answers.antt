use Rattle.std.proofs.Common.{map, sym, ◌∙◌, arith}
use Rattle.std.proofs.lemmas.List.{length-map}
use Rattle.smt_values.specs.SortIds.{sort_at}
use Rattle.model_texts.specs.GivenParameters.{parameter_of, parameters_of}
use Rattle.model_texts.proofs.EntryForms.{lengths_differ, parameter_form, sort_differs, sort_agrees}
use Rattle.model_texts.proofs.entries.have_sorts.Goals as goal

pub returns-then-len-sorts-clause-sorts : goal.returns-then-len-sorts-clause-sorts
returns-then-len-sorts-clause-sorts c =
    let sorts = length-map c.args.sorts.now (sort_at c.args.table.now.sorts) in
    let parameters = length-map c.args.parameters.now (parameter_of c.args.forest.now.tokens) in
    sym (lengths_differ (map (sort_at c.args.table.now.sorts) c.args.sorts.now) (parameters_of c.args.forest.now.tokens c.args.parameters.now)
    (λ e. absurd (omega (arith, sorts, parameters, e, c.len.ensures.len, c.if-len-sorts.true))))

pub is_sort_at-requires-clause-form : goal.is_sort_at-requires-clause-form
is_sort_at-requires-clause-form c =
    parameter_form c.args.forest.now.tokens c.args.parameters.now c.loop-place.place (c.sort.ensures.0, c.sort.result) (omega (arith, c.len.ensures.len)) c.requires.forms c.sort.ensures.1

pub returns-then-not-is_sort_at-clause-sorts : goal.returns-then-not-is_sort_at-clause-sorts
returns-then-not-is_sort_at-clause-sorts c =
    sort_differs c.args.table.now.sorts c.args.forest.now.tokens c.args.sorts.now c.args.parameters.now c.loop-place.place (c.sort.ensures.0, c.sort.result) _ (omega arith) (omega (arith, c.len.ensures.len)) c.sort.ensures.1
    _ c.loop-place.invariant (sym c.is_sort_at.ensures ∙ c.if-not-is_sort_at.true)

pub loop-place-preserved : goal.loop-place-preserved
loop-place-preserved c =
    sort_agrees c.args.table.now.sorts c.args.forest.now.tokens c.args.sorts.now c.args.parameters.now c.loop-place.place (c.sort.ensures.0, c.sort.result) _ (omega arith) (omega (arith, c.len.ensures.len)) c.sort.ensures.1
    _ c.loop-place.invariant (sym c.is_sort_at.ensures ∙ c.if-not-is_sort_at.false)
