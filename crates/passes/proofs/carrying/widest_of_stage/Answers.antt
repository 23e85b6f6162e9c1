use Rattle.std.proofs.Common.{◌++◌, sym, subst, List, map, Some}
use Rattle.passes.specs.declared.searching.LiveSymbol.{LiveSymbol}
use Rattle.pass_laws.specs.Carry.{Asked}
use Rattle.passes.specs.LiveRows.{operands_by, asked_for_rows}
use Rattle.passes.specs.LiveSymbols.{given_at, IsWidest}
use Rattle.passes.proofs.ReturnedStages.{asked_with}
use Rattle.passes.proofs.carrying.widest_of_stage.Goals as goal

pub returns-clause-widest : goal.returns-clause-widest
returns-clause-widest c = λ qs before.
    let t = c.args.table.now in
    let es = c.in-Some.uses.entries in
    let items = c.args.live.now.given.items in
    subst (λ (rs : List Asked). IsWidest (qs ++ rs) c.in_ok-widest.widest) (sym (asked_with t c.args.stage.now.uses c.in-Some.uses c.in-Some.is (λ u. u.entries) (map (given_at t) items)))
    (subst (λ (ls : List LiveSymbol). IsWidest (qs ++ asked_for_rows (Some (operands_by t es)) (map (given_at t) ls)) c.in_ok-widest.widest) c.as_slice-given.ensures.value (c.in_ok-widest.ensures.widest qs before))
