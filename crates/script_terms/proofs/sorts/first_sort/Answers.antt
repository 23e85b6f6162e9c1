use Rattle.std.proofs.Common.{ap, ◌∙◌}
use Rattle.script_terms.specs.Known.{sorts_known}
use Rattle.script_terms.specs.Places.{form_from}
use Rattle.script_terms.specs.Replies.{refused_seen}
use Rattle.script_terms.specs.SortForms.{sort_in}
use Rattle.script_terms.specs.SortSteps.{all_filled}
use Rattle.script_terms.proofs.SortReading.{all_filled-refused, leads-refused}
use Rattle.script_terms.proofs.sorts.first_sort.Goals as goal

pub returns-in_err-sort-clause-leads : goal.returns-in_err-sort-clause-leads
returns-in_err-sort-clause-leads c =
    let ts = c.args.forest.now.tokens in
    let ss = c.args.table.now.sorts in
    let live = sorts_known c.args.table.now c.args.scope.now in
    let e = c.in_err-sort.field-0.0 in
    leads-refused live ts ss c.loop-sort.waiting (all_filled live ts ss c.args.waiting.now (sort_in live (form_from ts c.args.i))) e c.from_residual.result c.from_residual.ensures.1
    (c.loop-sort.invariant.rest ∙ ap (all_filled live ts ss c.loop-sort.waiting) c.in_err-sort.ensures ∙ all_filled-refused live ts ss c.loop-sort.waiting (refused_seen e))
