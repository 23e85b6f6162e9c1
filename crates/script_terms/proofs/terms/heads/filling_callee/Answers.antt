use Rattle.std.proofs.Common.{◌≡◌, true, Some, ap, sym, ◌∙◌}
use Rattle.std.specs.Prelude.{codes, bytes_eq}
use Rattle.std.proofs.lemmas.Result.{err_from_is_err_and}
use Rattle.smt_lex.specs.Forest.{token_at}
use Rattle.script_terms.specs.HeadClauses.{world_of}
use Rattle.script_terms.specs.Known.{sorts_known}
use Rattle.script_terms.specs.Places.{form_from, forms_from}
use Rattle.script_terms.proofs.HeadsCalled.{filling_fault, filling_called}
use Rattle.script_terms.proofs.Showing.{sorts_found}
use Rattle.script_terms.proofs.terms.heads.filling_callee.Goals as goal

pub returns-in_err-sort-clause-callee : goal.returns-in_err-sort-clause-callee
returns-in_err-sort-clause-callee c supply live shows =
    let ts = c.args.forest.now.tokens in
    let word : bytes_eq c.name.result.now (codes "const") ≡ true = ap (bytes_eq c.name.result.now) (sym c.as_slice.ensures) ∙ sym c.eq.ensures ∙ c.if-eq.true in
    let p = err_from_is_err_and c.from_residual.result c.from_residual.ensures.1 in
    rw (p.1, p.2)
    (filling_fault live (token_at ts c.args.i).start (forms_from ts c.args.name) (form_from ts c.in-Two.name) (form_from ts c.in-Two.sort) c.name.result.now c.in-Two.ensures.forms
    (c.is_symbol.ensures.yes c.if-is_symbol.true ∙ sym (ap Some c.name.ensures)) word
    ts (world_of c.read_sort.new.table supply c.args.scope.now) (sorts_known c.args.table.now c.args.scope.now) c.in_err-sort.field-0.0
    (sorts_found c.args.table.now c.args.scope.now live shows.sorts) c.in_err-sort.ensures.sort)

pub returns-clause-callee : goal.returns-clause-callee
returns-clause-callee c supply live shows =
    let ts = c.args.forest.now.tokens in
    let word : bytes_eq c.name.result.now (codes "const") ≡ true = ap (bytes_eq c.name.result.now) (sym c.as_slice.ensures) ∙ sym c.eq.ensures ∙ c.if-eq.true in
    filling_called live (token_at ts c.args.i).start (forms_from ts c.args.name) (form_from ts c.in-Two.name) (form_from ts c.in-Two.sort) c.name.result.now c.in-Two.ensures.forms
    (c.is_symbol.ensures.yes c.if-is_symbol.true ∙ sym (ap Some c.name.ensures)) word
    ts (world_of c.read_sort.new.table supply c.args.scope.now) (sorts_known c.args.table.now c.args.scope.now) c.in_ok-sort.sort
    (sorts_found c.args.table.now c.args.scope.now live shows.sorts) c.in_ok-sort.ensures.sort c.in_ok-sort.ensures.within
