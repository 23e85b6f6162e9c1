use Rattle.std.proofs.Common.{◌≡◌, true, Ok, Err, ap, sym, ◌∙◌}
use Rattle.smt_terms.specs.Rank.{is_array}
use Rattle.smt_terms.specs.Sorts.{array}
use Rattle.smt_values.specs.SortIds.{sort_at}
use Rattle.script_terms.specs.declared.sorts.Frame.{Frame}
use Rattle.script_terms.specs.Known.{sorts_known}
use Rattle.script_terms.specs.SortSteps.{filled, all_filled}
use Rattle.script_terms.proofs.Grown.{grows_as}
use Rattle.script_terms.proofs.SortReading.{is-array, refused-index, all_filled-refused, all_filled_stays, frames_stay, added_grows}
use Rattle.script_terms.proofs.sorts.next_sort.Goals as goal

pub returns-then-is_some-clause-leads : goal.returns-then-is_some-clause-leads
returns-then-is_some-clause-leads c =
    let ts = c.args.forest.now.tokens in
    let ss = c.args.table.now.sorts in
    let live = sorts_known c.args.table.now c.args.scope.now in
    let fs = c.args.waiting.now in
    let array_index : is_array (sort_at ss c.args.sort) ≡ true =
    ap (λ us. is_array (sort_at us c.args.sort)) (sym c.sorts.ensures)
    ∙ is-array c.sorts.result.now c.args.sort c.parts.result c.parts.ensures.parts (sym c.is_some.ensures ∙ c.if-is_some.true) in
    ap (λ (f : Frame). all_filled live ts ss fs (filled live ts ss f (Ok (sort_at ss c.args.sort)))) c.in-Index.is
    ∙ ap (all_filled live ts ss fs) (refused-index live ts ss c.in-Index.index c.in-Index.element c.args.sort array_index)
    ∙ all_filled-refused live ts ss fs _
    ∙ sym (ap Err (λ i. record { cause = c.fault.ensures.cause i; place = c.fault.ensures.place i }))

pub returns-in_ok-array-in-Element-clause-leads : goal.returns-in_ok-array-in-Element-clause-leads
returns-in_ok-array-in-Element-clause-leads c =
    let ts = c.args.forest.now.tokens in
    let ss = c.args.table.now.sorts in
    let us = c.array_sort.new.self.sorts in
    let live = sorts_known c.args.table.now c.args.scope.now in
    let fs = c.args.waiting.now in
    let grows = added_grows ss us _ c.in_ok-array-in-Element.ensures.grows in
    ap (λ (f : Frame). all_filled live ts ss fs (filled live ts ss f (Ok (sort_at ss c.args.sort)))) c.in-Element.is
    ∙ sym (all_filled_stays ts ss us grows live fs (Ok (array (sort_at ss c.in-Element.index) (sort_at ss c.args.sort))) c.requires.frames)
    ∙ ap (λ s. all_filled live ts us fs (Ok s)) (sym c.in_ok-array-in-Element.ensures.sort)

pub returns-in_ok-array-in-Element-clause-frames : goal.returns-in_ok-array-in-Element-clause-frames
returns-in_ok-array-in-Element-clause-frames c =
    frames_stay c.args.forest.now.tokens c.args.table.now.sorts c.array_sort.new.self.sorts (added_grows _ _ _ c.in_ok-array-in-Element.ensures.grows) c.args.waiting.now c.requires.frames

pub returns-in_ok-array-in-Element-clause-grows : goal.returns-in_ok-array-in-Element-clause-grows
returns-in_ok-array-in-Element-clause-grows c = record {
  trees = grows_as _ _ c.in_ok-array-in-Element.ensures.trees;
  symbols = grows_as _ _ c.in_ok-array-in-Element.ensures.symbols;
  sorts = added_grows _ _ _ c.in_ok-array-in-Element.ensures.grows;
}
