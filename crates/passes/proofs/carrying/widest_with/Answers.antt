use Rattle.std.proofs.Common.{sym, subst, get_or, ◌++◌, List, map, take}
use Rattle.std.proofs.lemmas.List.{append-nil}
use Rattle.std.proofs.lemmas.Option.{slice_get-get_or}
use Rattle.term_table.specs.Formulas.{tree}
use Rattle.passes.specs.declared.searching.LiveSymbol.{LiveSymbol}
use Rattle.pass_laws.specs.Carry.{Asked}
use Rattle.passes.specs.LiveSymbols.{IsWidest, asked_in, given_at}
use Rattle.passes.proofs.LiveStages.{asked-given}
use Rattle.passes.proofs.ListPlaces.{all_taken}
use Rattle.passes.proofs.carrying.widest_with.Goals as goal

pub loop-one-init : goal.loop-one-init
loop-one-init c = record {
  kept = c.requires.kept;
  widest = λ qs before. subst (λ (rs : List Asked). IsWidest rs c.args.earlier) (sym (append-nil qs)) before;
}

pub loop-one-preserved : goal.loop-one-preserved
loop-one-preserved c =
    let t = c.args.table.now in
    let given = c.args.given.now in
    let i = c.loop-one.one-index in
    let d : LiveSymbol = record { assertion = 0; symbol = record { 0 = 0 }; term = record { 0 = 0 } } in
    let one = get_or given i d in
    record {
      kept = c.in_ok-bits.ensures.kept;
      widest = λ qs before.
          subst (λ (rs : List Asked). IsWidest rs c.with_bits-widest.result) (sym (asked-given t given i one (slice_get-get_or given i d c.loop-one-test.true) qs))
          (c.with_bits-widest.ensures (qs ++ asked_in (map (given_at t) (take i given))) (tree t one.term) c.in_ok-bits.ensures.bound (c.loop-one.invariant.widest qs before));
    }

pub returns-clause-widest : goal.returns-clause-widest
returns-clause-widest c = λ qs before.
    subst (λ (ls : List LiveSymbol). IsWidest (qs ++ asked_in (map (given_at c.args.table.now) ls)) c.loop-one.widest) (all_taken c.args.given.now c.loop-one.one-index c.loop-one-test.false) (c.loop-one.invariant.widest qs before)
