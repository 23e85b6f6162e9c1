use Rattle.std.proofs.Common.{◌≡◌, ◌+◌, Some, [], ap, sym, ◌∙◌}
use Rattle.smt_lex.specs.Forms.{node, ◌⨾◌}
use Rattle.script_terms.specs.Known.{sorts_known}
use Rattle.script_terms.specs.Places.{form_from, forms_from}
use Rattle.script_terms.specs.SortForms.{applied_sort, parts_in, sort_in}
use Rattle.script_terms.specs.SortSteps.{form_size, forms_size}
use Rattle.script_terms.proofs.SortReading.{part-moved, part-refused, list-indexed, list-applied, list-size}
use Rattle.script_terms.proofs.sorts.list_part.Goals as goal

pub returns-in_err-sort : goal.returns-in_err-sort
returns-in_err-sort c =
    let ts = c.args.forest.now.tokens in
    let live = sorts_known c.args.table.now c.args.scope.now in
    let fs = forms_from ts c.args.i in
    let gs = forms_from ts c.after-behind.result in
    let f = form_from ts c.args.i in
    let forms : fs ≡ f ⨾ gs = (c.begins.ensures.yes c.if-begins.true).forms ∙ ap (λ n. f ⨾ forms_from ts n) (sym c.after-behind.ensures.behind) in
    part-refused live ts c.args.table.now.sorts (sort_in live (node c.args.place fs)) (form_size (node c.args.place fs)) c.in_err-sort.field-0.0 c.from_residual.result c.from_residual.ensures.1
    (list-indexed live c.args.place fs gs f forms (sym c.is_word.ensures ∙ c.if-is_word.true) ∙ c.in_err-sort.ensures.sort [])

pub returns-then-is_symbol : goal.returns-then-is_symbol
returns-then-is_symbol c =
    let ts = c.args.forest.now.tokens in
    let live = sorts_known c.args.table.now c.args.scope.now in
    let fs = forms_from ts c.args.i in
    let gs = forms_from ts c.after-behind.result in
    let f = form_from ts c.args.i in
    let forms : fs ≡ f ⨾ gs = (c.begins.ensures.yes c.if-begins.true).forms ∙ ap (λ n. f ⨾ forms_from ts n) (sym c.after-behind.ensures.behind) in
    part-moved live ts c.args.table.now.sorts (applied_sort live c.args.place (parts_in live gs) (Some c.name.result.now)) (sort_in live (node c.args.place fs)) (forms_size gs + 2) (form_size (node c.args.place fs)) c.applied_part.result
    (list-applied live c.args.place fs gs f c.name.result.now forms (sym c.is_word.ensures ∙ c.if-is_word.false) (c.is_symbol.ensures.yes c.if-is_symbol.true ∙ sym (ap Some c.name.ensures)))
    (list-size c.args.place fs gs f forms) c.applied_part.ensures
