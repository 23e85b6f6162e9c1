use Rattle.std.proofs.Common.{sym, subst, List, map, Some}
use Rattle.std.proofs.lemmas.Result.{err_from_is_err_and}
use Rattle.models.specs.ModelView.{model_at}
use Rattle.passes.specs.declared.searching.LiveSymbol.{LiveSymbol}
use Rattle.pass_laws.specs.Carry.{Asked}
use Rattle.passes.specs.LiveRows.{operands_by, asked_for_rows}
use Rattle.passes.specs.LiveSymbols.{given_at, IsBeyondAmong}
use Rattle.passes.proofs.ReturnedStages.{asked_with}
use Rattle.passes.proofs.carrying.return_over.Goals as goal

pub returns-in_err-rows : goal.returns-in_err-rows
returns-in_err-rows c =
    let t = c.args.table.now in
    let m = model_at t c.args.model.now in
    let es = c.in-Some.uses.entries in
    let e = c.in_err-rows.field-0.0 in
    let p = err_from_is_err_and c.from_residual.result c.from_residual.ensures.1 in
    rw (p.1, p.2)
    (subst (λ (qs : List Asked). IsBeyondAmong t m qs e) (sym (asked_with t c.args.stage.now.uses c.in-Some.uses c.in-Some.is (λ u. u.entries) (map (given_at t) c.args.live.now.given.items)))
    (subst (λ (ls : List LiveSymbol). IsBeyondAmong t m (asked_for_rows (Some (operands_by t es)) (map (given_at t) ls)) e) c.as_slice-given.ensures.value c.in_err-rows.ensures))
