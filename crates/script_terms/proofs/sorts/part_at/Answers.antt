use Rattle.std.proofs.Common.{◌∙◌}
use Rattle.smt_lex.specs.Forest.{token_at}
use Rattle.script_terms.specs.Known.{sorts_known}
use Rattle.script_terms.specs.Places.{form_from}
use Rattle.script_terms.specs.SortForms.{sort_in}
use Rattle.script_terms.specs.SortSteps.{form_size}
use Rattle.script_terms.proofs.SortReading.{atom-sort, part-refused}
use Rattle.script_terms.proofs.sorts.part_at.Goals as goal

pub returns-in_err-sort-in-None : goal.returns-in_err-sort-in-None
returns-in_err-sort-in-None c =
    let ts = c.args.forest.now.tokens in
    let live = sorts_known c.args.table.now c.args.scope.now in
    let f = form_from ts c.args.i in
    part-refused live ts c.args.table.now.sorts (sort_in live f) (form_size f) c.in_err-sort-in-None.field-0.0 c.from_residual.result c.from_residual.ensures.1
    (atom-sort live f (token_at ts c.args.i) c.in-None.ensures ∙ c.in_err-sort-in-None.ensures.sort c.args.table.now)
