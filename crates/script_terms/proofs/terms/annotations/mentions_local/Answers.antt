use Rattle.std.proofs.Common.{ap, ◌∙◌}
use Rattle.std.specs.List.{list_any}
use Rattle.term_table.specs.Formulas.{tree}
use Rattle.script_terms.specs.SymbolClauses.{has_symbol}
use Rattle.script_terms.proofs.LocalsMentioned.{mentions_found, nothing_mentioned}
use Rattle.script_terms.proofs.terms.annotations.mentions_local.Goals as goal

pub returns-then-is_empty : goal.returns-then-is_empty
returns-then-is_empty c supply bound shows =
    nothing_mentioned c.args.table.now c.know_table.ensures supply c.args.locals.now bound shows c.constants-constants.result.now
    c.is_empty.result (tree c.args.table.now c.args.node) c.constants-constants.ensures c.is_empty.ensures c.if-is_empty.true

pub returns : goal.returns
returns c supply bound shows =
    let free = c.in_ok-free.free.items in
    c.has_any.ensures
    ∙ ap (list_any (has_symbol c.in_ok-bound.bound.keys)) c.deref.ensures.value
    ∙ mentions_found c.args.table.now c.know_table.ensures supply c.args.locals.now bound shows c.constants-constants.result.now c.in_ok-bound.bound.keys (tree c.args.table.now c.args.node) free
    c.constants-constants.ensures c.in_ok-bound.ensures c.in_ok-free.ensures
