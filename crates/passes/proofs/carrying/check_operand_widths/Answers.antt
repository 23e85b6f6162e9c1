use Rattle.std.proofs.Common.{◌-◌, ◌<◌, sym, subst, refl, length, drop, List, arith}
use Rattle.std.proofs.lemmas.Option.{slice_get_read}
use Rattle.pass_laws.specs.Carry.{Asked}
use Rattle.passes.specs.LiveRows.{all_asked_at}
use Rattle.passes.specs.LiveSymbols.{IsWidest}
use Rattle.passes.proofs.ReturnedStages.{asked_front}
use Rattle.passes.proofs.StepsBefore.{live_stage-at, live_stages_count}
use Rattle.passes.proofs.carrying.check_operand_widths.Goals as goal

pub bounds-lives-place : goal.bounds-lives-place
bounds-lives-place c =
    let count = live_stages_count c.args.table.now c.args.stages.now c.args.lives.now c.requires in
    let within = c.loop-place.invariant.within in
    omega (arith, count, within)

pub widest_of_stage-requires-clause-live : goal.widest_of_stage-requires-clause-live
widest_of_stage-requires-clause-live c =
    let stages = c.args.stages.now in
    let lives = c.args.lives.now in
    let place = c.loop-place.place in
    let stage = c.index-stages-place.result in
    let live = c.index-lives-place.result in
    let count = live_stages_count c.args.table.now stages lives c.requires in
    let within = c.loop-place.invariant.within in
    let inside : place - 1 < length stages = omega arith in
    let near : place - 1 < length lives = omega (arith, count, within) in
    live_stage-at c.args.table.now stages lives c.requires (place - 1) stage live (slice_get_read stages (length stages) (place - 1) stage refl inside c.index-stages-place.is)
    (slice_get_read lives (length lives) (place - 1) live refl near c.index-lives-place.is)

pub loop-place-preserved : goal.loop-place-preserved
loop-place-preserved c =
    let t = c.args.table.now in
    let stages = c.args.stages.now in
    let lives = c.args.lives.now in
    let place = c.loop-place.place in
    let stage = c.index-stages-place.result in
    let live = c.index-lives-place.result in
    let count = live_stages_count t stages lives c.requires in
    let was = c.loop-place.invariant in
    let within = was.within in
    let inside : place - 1 < length stages = omega arith in
    let near : place - 1 < length lives = omega (arith, count, within) in
    let at = slice_get_read stages (length stages) (place - 1) stage refl inside c.index-stages-place.is in
    let here = slice_get_read lives (length lives) (place - 1) live refl near c.index-lives-place.is in
    record {
      within = omega arith;
      kept = c.in_ok-widest.ensures.kept;
      widest =
          subst (λ (qs : List Asked). IsWidest qs c.in_ok-widest.widest) (sym (asked_front t stages lives place stage live c.loop-place-test.true within (omega (arith, count, within)) at here))
          (c.in_ok-widest.ensures.widest (all_asked_at t (drop place stages) (drop place lives)) was.widest);
    }
