use Rattle.std.proofs.Common.{sym, subst, refl, length, take, map, ◌++◌, List, All}
use Rattle.std.proofs.lemmas.Option.{slice_get_read}
use Rattle.std.proofs.lemmas.Result.{err_from_is_err_and}
use Rattle.passes.specs.declared.searching.LiveSymbol.{LiveSymbol}
use Rattle.pass_laws.specs.Carry.{Asked}
use Rattle.passes.specs.LiveSymbols.{IsWidest, IsLiveOver, AreLiveOver, asked_in, given_at, all_asked_in, lives_at}
use Rattle.passes.proofs.ListPlaces.{all_at}
use Rattle.passes.proofs.LiveStages.{stage-more}
use Rattle.passes.proofs.carrying.check_widths.Goals as goal

pub widest_with-requires-clause-given : goal.widest_with-requires-clause-given
widest_with-requires-clause-given c =
    let stages = c.args.lives.now in
    let i = c.loop-live.live-index in
    let stage = c.live-item.result in
    let at = slice_get_read stages (length stages) i stage refl c.loop-live-test.true c.live-item.is in
    subst (λ (ls : List LiveSymbol). All (IsLiveOver c.args.table.now) ls) (sym c.as_slice-given.ensures.value) (all_at (AreLiveOver c.args.table.now) stages i stage at c.requires).given

pub returns-in_err-widest : goal.returns-in_err-widest
returns-in_err-widest c = let p = err_from_is_err_and c.from_residual.result c.from_residual.ensures.1 in rw (p.1, p.2) tt

pub loop-live-preserved : goal.loop-live-preserved
loop-live-preserved c =
    let t = c.args.table.now in
    let stages = c.args.lives.now in
    let i = c.loop-live.live-index in
    let stage = c.live-item.result in
    let at = slice_get_read stages (length stages) i stage refl c.loop-live-test.true c.live-item.is in
    record {
      kept = c.in_ok-widest.ensures.kept;
      widest =
          subst (λ (rs : List Asked). IsWidest rs c.in_ok-widest.widest) (sym (stage-more t stages i stage at))
          (subst (λ (ls : List LiveSymbol). IsWidest (all_asked_in (lives_at t (take i stages)) ++ asked_in (map (given_at t) ls)) c.in_ok-widest.widest) c.as_slice-given.ensures.value
          (c.in_ok-widest.ensures.widest (all_asked_in (lives_at t (take i stages))) c.loop-live.invariant.widest));
    }
