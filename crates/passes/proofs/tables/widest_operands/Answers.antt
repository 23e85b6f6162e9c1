use Rattle.std.proofs.Common.{◌∙◌, ◌≡◌, ap, sym, subst, get_or, ◌++◌, List, map, take, Some}
use Rattle.std.proofs.lemmas.Option.{slice_get-get_or}
use Rattle.term_table.specs.Formulas.{trees_at, symbol_at}
use Rattle.passes.specs.declared.searching.LiveSymbol.{LiveSymbol}
use Rattle.pass_laws.specs.Carry.{Asked, asked_for}
use Rattle.pass_laws.specs.LiveGroups.{Operands}
use Rattle.passes.specs.LiveRows.{asked_for_rows, operands_by}
use Rattle.passes.specs.LiveSymbols.{IsWidest, IsLiveOver, given_at}
use Rattle.passes.proofs.FoundUses.{operands_there}
use Rattle.passes.proofs.ListPlaces.{all_at, all_taken}
use Rattle.passes.proofs.TabledTerms.{rows-taken}
use Rattle.passes.proofs.tables.widest_operands.Goals as goal

pub loop-one-preserved : goal.loop-one-preserved
loop-one-preserved c =
    let t = c.args.table.now in
    let es = c.args.uses.now.entries in
    let ops : Operands = operands_by t es in
    let given = c.args.given.now in
    let i = c.loop-one.one-index in
    let d : LiveSymbol = record { assertion = 0; symbol = record { 0 = 0 }; term = record { 0 = 0 } } in
    let one = get_or given i d in
    let at = slice_get-get_or given i d c.loop-one-test.true in
    let over : IsLiveOver t one = all_at (IsLiveOver t) given i one at c.requires.given in
    let same : ops (symbol_at t one.symbol) ≡ trees_at t c.operands_of-operands.result.now = operands_there t c.know_table.ensures one.symbol over.0 es ∙ sym (c.operands_of-operands.ensures.operands t) in
    record {
      kept = c.in_ok-widest.ensures.kept;
      widest = λ qs before.
          subst (λ (rs : List Asked). IsWidest rs c.in_ok-widest.widest)
          (sym (rows-taken t ops given i one at qs ∙ ap (λ us. (qs ++ asked_for_rows (Some ops) (map (given_at t) (take i given))) ++ asked_for one.assertion us) same))
          (c.in_ok-widest.ensures.widest (qs ++ asked_for_rows (Some ops) (map (given_at t) (take i given))) (c.loop-one.invariant.widest qs before));
    }

pub returns-clause-widest : goal.returns-clause-widest
returns-clause-widest c = λ qs before.
    subst (λ (ls : List LiveSymbol). IsWidest (qs ++ asked_for_rows (Some (operands_by c.args.table.now c.args.uses.now.entries)) (map (given_at c.args.table.now) ls)) c.loop-one.widest) (all_taken c.args.given.now c.loop-one.one-index c.loop-one-test.false)
    (c.loop-one.invariant.widest qs before)
