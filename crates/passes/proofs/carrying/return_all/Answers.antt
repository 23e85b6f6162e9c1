use Rattle.std.proofs.Common.{◌∙◌, ◌≡◌, ◌≤◌, ◌-◌, ◌<◌, ap, sym, refl, length, map, drop, slice_get, Some, arith}
use Rattle.std.proofs.lemmas.List.{length-map}
use Rattle.std.proofs.lemmas.Option.{slice_get_read}
use Rattle.std.proofs.lemmas.Result.{err_from_is_err_and}
use Rattle.models.specs.ModelView.{model_at}
use Rattle.pass_laws.specs.Carry.{beyond}
use Rattle.pass_laws.specs.LiveGroups.{Told, met_of, back_by, back_stages_by}
use Rattle.passes.specs.LiveRows.{operands_told, AreAppliedBy}
use Rattle.passes.specs.LiveSymbols.{live_at}
use Rattle.passes.specs.Plans.{steps_of, told_of}
use Rattle.passes.proofs.ListPlaces.{all_at, map_at}
use Rattle.passes.proofs.LiveStages.{live_there}
use Rattle.passes.proofs.ReturnedStages.{narrow_stage, returned-model, returned-beyond, returned_refused}
use Rattle.passes.proofs.StepsBefore.{live_stage-at, live_stages_count}
use Rattle.passes.proofs.carrying.return_all.Goals as goal

pub bounds-lives-place : goal.bounds-lives-place
bounds-lives-place c =
    let count = live_stages_count c.args.table.now c.args.stages.now c.args.lives.now c.requires.live in
    let within = c.loop-place.invariant.within in
    omega (arith, count, within)

pub return_over-requires-clause-live : goal.return_over-requires-clause-live
return_over-requires-clause-live c =
    let stages = c.args.stages.now in
    let lives = c.args.lives.now in
    let place = c.loop-place.place in
    let stage = c.index-stages-place.result in
    let live = c.index-lives-place.result in
    let count = live_stages_count c.args.table.now stages lives c.requires.live in
    let within = c.loop-place.invariant.within in
    let inside : place - 1 < length stages = omega arith in
    let near : place - 1 < length lives = omega (arith, count, within) in
    live_stage-at c.args.table.now stages lives c.requires.live (place - 1) stage live (slice_get_read stages (length stages) (place - 1) stage refl inside c.index-stages-place.is)
    (slice_get_read lives (length lives) (place - 1) live refl near c.index-lives-place.is)

pub return_over-requires-clause-narrow : goal.return_over-requires-clause-narrow
return_over-requires-clause-narrow c =
    let stages = c.args.stages.now in
    let lives = c.args.lives.now in
    let place = c.loop-place.place in
    let stage = c.index-stages-place.result in
    let live = c.index-lives-place.result in
    let count = live_stages_count c.args.table.now stages lives c.requires.live in
    let within = c.loop-place.invariant.within in
    let inside : place - 1 < length stages = omega arith in
    let near : place - 1 < length lives = omega (arith, count, within) in
    narrow_stage c.args.table.now stages lives (place - 1) stage live (slice_get_read stages (length stages) (place - 1) stage refl inside c.index-stages-place.is)
    (slice_get_read lives (length lives) (place - 1) live refl near c.index-lives-place.is) c.requires.narrow

pub loop-place-preserved : goal.loop-place-preserved
loop-place-preserved c =
    let t = c.args.table.now in
    let stages = c.args.stages.now in
    let lives = c.args.lives.now in
    let tolds = map (told_of t) stages in
    let place = c.loop-place.place in
    let stage = c.index-stages-place.result in
    let live = c.index-lives-place.result in
    let st : Told = told_of t stage in
    let count = live_stages_count t stages lives c.requires.live in
    let was = c.loop-place.invariant in
    let within = was.within in
    let long = length-map stages (told_of t) in
    let inside : place - 1 < length stages = omega arith in
    let near : place - 1 < length lives = omega (arith, count, within) in
    let at : slice_get tolds (place - 1) ≡ Some st = map_at (told_of t) stages (place - 1) stage (slice_get_read stages (length stages) (place - 1) stage refl inside c.index-stages-place.is) in
    let here : slice_get lives (place - 1) ≡ Some live = slice_get_read lives (length lives) (place - 1) live refl near c.index-lives-place.is in
    let told : place ≤ length tolds = omega (arith, long, within) in
    let first = model_at t c.args.model in
    let old = model_at t c.loop-place.model in
    let new = model_at t c.return_over.new.model in
    let returns = c.in_ok-return_over.ensures in
    record {
      within = omega arith;
      beyond = λ k are applied.
          returned-beyond t k tolds place st c.loop-place-test.true told at first (operands_told t stage) (steps_of t stage.steps.items) (live_at t live) refl
          (live_there t k tolds lives are (place - 1) st live at here) (all_at (λ (x : Told). AreAppliedBy x.operands (met_of k x)) tolds (place - 1) st at applied)
          (was.beyond k are applied) old (was.model k are applied) returns.within;
      model = λ k are applied.
          returned-model t k tolds place st c.loop-place-test.true told at first (operands_told t stage) (steps_of t stage.steps.items) (live_at t live) refl
          (live_there t k tolds lives are (place - 1) st live at here) (all_at (λ (x : Told). AreAppliedBy x.operands (met_of k x)) tolds (place - 1) st at applied)
          old new (was.model k are applied) returns.model;
      numbers = returns.numbers;
      valid = returns.valid;
    }

pub returns-in_err-return_over : goal.returns-in_err-return_over
returns-in_err-return_over c = λ k are applied.
    let t = c.args.table.now in
    let stages = c.args.stages.now in
    let lives = c.args.lives.now in
    let tolds = map (told_of t) stages in
    let place = c.loop-place.place in
    let stage = c.index-stages-place.result in
    let live = c.index-lives-place.result in
    let st : Told = told_of t stage in
    let count = live_stages_count t stages lives c.requires.live in
    let was = c.loop-place.invariant in
    let within = was.within in
    let long = length-map stages (told_of t) in
    let inside : place - 1 < length stages = omega arith in
    let near : place - 1 < length lives = omega (arith, count, within) in
    let at : slice_get tolds (place - 1) ≡ Some st = map_at (told_of t) stages (place - 1) stage (slice_get_read stages (length stages) (place - 1) stage refl inside c.index-stages-place.is) in
    let here : slice_get lives (place - 1) ≡ Some live = slice_get_read lives (length lives) (place - 1) live refl near c.index-lives-place.is in
    let told : place ≤ length tolds = omega (arith, long, within) in
    let first = model_at t c.args.model in
    let p = err_from_is_err_and c.from_residual.result c.from_residual.ensures.1 in
    rw (p.1, p.2)
    (returned_refused t k tolds place st c.loop-place-test.true told at first (operands_told t stage) (steps_of t stage.steps.items) (live_at t live) refl
    (live_there t k tolds lives are (place - 1) st live at here) (all_at (λ (x : Told). AreAppliedBy x.operands (met_of k x)) tolds (place - 1) st at applied)
    (was.beyond k are applied) (model_at t c.loop-place.model) (was.model k are applied) (back_by k tolds first) c.in_err-return_over.field-0.0 c.in_err-return_over.ensures)

pub returns : goal.returns
returns c = λ k are applied.
    let t = c.args.table.now in
    let tolds = map (told_of t) c.args.stages.now in
    let first = model_at t c.args.model in
    let was = c.loop-place.invariant in
    let past = c.loop-place-test.false in
    let none : c.loop-place.place ≡ 0 = omega arith in (
      sym (ap (λ i. beyond (back_stages_by k (drop i tolds) first)) none) ∙ was.beyond k are applied,
      was.model k are applied ∙ ap (λ i. back_by k (drop i tolds) first) none,
      was.numbers,
      was.valid,
    )
