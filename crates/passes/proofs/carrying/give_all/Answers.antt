use Rattle.std.proofs.Common.{◌∙◌, ◌≡◌, ◌<◌, ap, sym, subst, refl, length, map, drop, slice_get, Some, is_some, ◌+◌, true, arith}
use Rattle.std.proofs.lemmas.List.{length-map, at_drop_all}
use Rattle.std.proofs.lemmas.Option.{slice_get_read}
use Rattle.std.proofs.lemmas.Result.{err_from_is_err_and}
use Rattle.models.specs.ModelView.{model_at}
use Rattle.passes.specs.declared.plan.Stage.{Stage}
use Rattle.pass_laws.specs.Carry.{beyond}
use Rattle.passes.specs.Carrying.{breaks_in}
use Rattle.pass_laws.specs.LiveGroups.{Told, forth_by, forth_stages_by}
use Rattle.passes.specs.LiveSymbols.{live_at, lives_at}
use Rattle.passes.specs.Plans.{told_of}
use Rattle.passes.proofs.ListPlaces.{map_at}
use Rattle.passes.proofs.LiveStages.{narrow_at, live_there, removes_operands, forth-step, beyond-step, breaks-step, given-within, given-next, given_refused}
use Rattle.passes.proofs.StepsBefore.{live_stage-at, live_stages_count}
use Rattle.passes.proofs.carrying.give_all.Goals as goal

pub bounds-lives-place : goal.bounds-lives-place
bounds-lives-place c =
    let count = live_stages_count c.args.table.now c.args.stages.now c.args.lives.now c.requires.live in
    let within = c.loop-place-test.true in
    omega (arith, count, within)

pub give-requires-clause-live : goal.give-requires-clause-live
give-requires-clause-live c =
    let stages = c.args.stages.now in
    let lives = c.args.lives.now in
    let i = c.loop-place.place in
    let stage = c.index-stages-place.result in
    let live = c.index-lives-place.result in
    let count = live_stages_count c.args.table.now stages lives c.requires.live in
    let within = c.loop-place-test.true in
    let near : i < length lives = omega (arith, count, within) in
    (live_stage-at c.args.table.now stages lives c.requires.live i stage live (slice_get_read stages (length stages) i stage refl within c.index-stages-place.is)
    (slice_get_read lives (length lives) i live refl near c.index-lives-place.is)).live

pub give-requires-clause-narrow : goal.give-requires-clause-narrow
give-requires-clause-narrow c =
    let t = c.args.table.now in
    let lives = c.args.lives.now in
    let i = c.loop-place.place in
    let live = c.index-lives-place.result in
    let count = live_stages_count t c.args.stages.now lives c.requires.live in
    let within = c.loop-place-test.true in
    let near : i < length lives = omega (arith, count, within) in
    narrow_at (lives_at t lives) i (live_at t live) (map_at (live_at t) lives i live (slice_get_read lives (length lives) i live refl near c.index-lives-place.is)) c.requires.narrow

pub loop-place-preserved : goal.loop-place-preserved
loop-place-preserved c =
    let t = c.args.table.now in
    let stages = c.args.stages.now in
    let lives = c.args.lives.now in
    let tolds = map (told_of t) stages in
    let i = c.loop-place.place in
    let stage = c.index-stages-place.result in
    let live = c.index-lives-place.result in
    let st : Told = told_of t stage in
    let count = live_stages_count t stages lives c.requires.live in
    let within = c.loop-place-test.true in
    let near : i < length lives = omega (arith, count, within) in
    let at : slice_get tolds i ≡ Some st = map_at (told_of t) stages i stage (slice_get_read stages (length stages) i stage refl within c.index-stages-place.is) in
    let here : slice_get lives i ≡ Some live = slice_get_read lives (length lives) i live refl near c.index-lives-place.is in
    let removes = c.is_some-is_removal.result in
    let is : removes ≡ is_some st.operands = c.is_some-is_removal.ensures ∙ ap (λ (x : Stage). is_some x.uses) (sym c.index-stages-place.is) ∙ removes_operands t stage in
    let m = model_at t c.loop-place.model in
    let was = c.loop-place.invariant in
    let gives = c.in_ok-give.ensures in
    let new = model_at t c.give.new.model in
    record {
      beyond = λ k are.
          was.beyond k are
          ∙ beyond-step t k tolds i st at m (given-within t k tolds i st at m live removes is (live_there t k tolds lives are i st live at here) gives.within)
          ∙ ap (λ n. beyond (forth_stages_by k (drop (i + 1) tolds) n)) (sym (given-next t k tolds i st at m live removes is (live_there t k tolds lives are i st live at here) new gives.model));
      model = λ k are.
          was.model k are
          ∙ forth-step t k tolds i st at m
          ∙ ap (forth_by k (drop (i + 1) tolds)) (sym (given-next t k tolds i st at m live removes is (live_there t k tolds lives are i st live at here) new gives.model));
      breaks = λ k are a n h.
          was.breaks k are a n
          (breaks-step t k tolds i st at m a n
          (subst (λ x. breaks_in t (forth_stages_by k (drop (i + 1) tolds) x) a n ≡ true) (given-next t k tolds i st at m live removes is (live_there t k tolds lives are i st live at here) new gives.model) h));
      numbers = gives.numbers;
      valid = gives.valid;
    }

pub returns-in_err-give : goal.returns-in_err-give
returns-in_err-give c = λ k are.
    let t = c.args.table.now in
    let stages = c.args.stages.now in
    let lives = c.args.lives.now in
    let tolds = map (told_of t) stages in
    let i = c.loop-place.place in
    let stage = c.index-stages-place.result in
    let live = c.index-lives-place.result in
    let st : Told = told_of t stage in
    let count = live_stages_count t stages lives c.requires.live in
    let within = c.loop-place-test.true in
    let near : i < length lives = omega (arith, count, within) in
    let at : slice_get tolds i ≡ Some st = map_at (told_of t) stages i stage (slice_get_read stages (length stages) i stage refl within c.index-stages-place.is) in
    let here : slice_get lives i ≡ Some live = slice_get_read lives (length lives) i live refl near c.index-lives-place.is in
    let removes = c.is_some-is_removal.result in
    let is : removes ≡ is_some st.operands = c.is_some-is_removal.ensures ∙ ap (λ (x : Stage). is_some x.uses) (sym c.index-stages-place.is) ∙ removes_operands t stage in
    let first = model_at t c.args.model in
    let was = c.loop-place.invariant in
    let p = err_from_is_err_and c.from_residual.result c.from_residual.ensures.1 in
    rw (p.1, p.2)
    (given_refused t k tolds i st at (model_at t c.loop-place.model) live removes is (live_there t k tolds lives are i st live at here) first (forth_by k tolds first) (was.beyond k are) (was.breaks k are) c.in_err-give.field-0.0
    c.in_err-give.ensures)

pub returns : goal.returns
returns c = λ k are.
    let t = c.args.table.now in
    let tolds = map (told_of t) c.args.stages.now in
    let m = model_at t c.loop-place.model in
    let was = c.loop-place.invariant in
    let long = length-map c.args.stages.now (told_of t) in
    let past = c.loop-place-test.false in (
      was.beyond k are ∙ at_drop_all (λ xs. beyond (forth_stages_by k xs m)) tolds c.loop-place.place (omega (arith, long)),
      sym (was.model k are ∙ at_drop_all (λ xs. forth_by k xs m) tolds c.loop-place.place (omega (arith, long))),
      was.numbers,
      was.valid,
    )
