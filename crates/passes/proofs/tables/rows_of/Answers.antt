use Rattle.std.proofs.Common.{sym, subst, get_or, List, All, map, take}
use Rattle.std.proofs.lemmas.Option.{slice_get-get_or}
use Rattle.smt_terms.specs.Term.{Term}
use Rattle.passes.specs.declared.searching.LiveSymbol.{LiveSymbol}
use Rattle.passes.specs.LiveRows.{operands_by, IsNarrowTerm, IsTabling}
use Rattle.passes.specs.LiveSymbols.{Given, given_at, IsLiveOver}
use Rattle.passes.proofs.FoundUses.{operands_there}
use Rattle.passes.proofs.ListPlaces.{all_at}
use Rattle.passes.proofs.LiveStages.{given-more}
use Rattle.passes.proofs.TabledTerms.{narrow_operands}
use Rattle.passes.proofs.tables.rows_of.Goals as goal

pub tabulate-requires-clause-narrow : goal.tabulate-requires-clause-narrow
tabulate-requires-clause-narrow c =
    let t = c.args.table.now in
    let es = c.args.uses.now.entries in
    let given = c.args.given.now in
    let i = c.loop-one.one-index in
    let d : LiveSymbol = record { assertion = 0; symbol = record { 0 = 0 }; term = record { 0 = 0 } } in
    let one = get_or given i d in
    let at = slice_get-get_or given i d c.loop-one-test.true in
    subst (λ (us : List Term). All IsNarrowTerm us) (operands_there t c.know_table.ensures one.symbol (all_at (IsLiveOver t) given i one at c.requires.given).0 es)
    (narrow_operands t (operands_by t es) given i one at c.requires.narrow)

pub loop-one-preserved : goal.loop-one-preserved
loop-one-preserved c =
    let t = c.args.table.now in
    let given = c.args.given.now in
    let i = c.loop-one.one-index in
    let d : LiveSymbol = record { assertion = 0; symbol = record { 0 = 0 }; term = record { 0 = 0 } } in
    let one = get_or given i d in
    record {
      kept = c.in_ok-tabulate.ensures.kept;
      rows =
          subst (λ (gs : List Given). IsTabling t c.args.model.now (operands_by t c.args.uses.now.entries) gs c.tabulate.new.self) (sym (given-more t given i one (slice_get-get_or given i d c.loop-one-test.true)))
          (c.in_ok-tabulate.ensures.rows (map (given_at t) (take i given)) c.loop-one.invariant.rows);
    }
