use Rattle.std.proofs.Common.{◌≡◌, ◌-◌, sym, subst, refl, length, drop, slice_get, Some, List, All, arith}
use Rattle.std.proofs.lemmas.List.{length-map, at_drop_all}
use Rattle.std.proofs.lemmas.Option.{slice_get_read}
use Rattle.smt_terms.specs.declared.ids.SymId.{SymId}
use Rattle.term_table.specs.Formulas.{IsSymbol}
use Rattle.script_read.specs.Commands.{Command}
use Rattle.pass_laws.specs.LiveGroups.{Drawn, met_in}
use Rattle.passes.specs.declared.searching.LiveSymbol.{LiveSymbol}
use Rattle.passes.specs.LiveSymbols.{IsLiveOver, HasUseOf, IsSearched}
use Rattle.passes.specs.Plans.{HaveUses, step_of, steps_of, IsStepOver}
use Rattle.passes.proofs.ListPlaces.{all_at, map_at, drop-front}
use Rattle.passes.proofs.searching.live_behind.Goals as goal

pub loop-place-preserved : goal.loop-place-preserved
loop-place-preserved c =
    let steps = c.args.steps.now in
    let place = c.loop-place.place in
    let step = c.index-steps-place.result in
    let was = c.loop-place.invariant in
    let within = was.within in
    let closed = was.closed in
    let more = c.in_ok-meet.ensures.closed in
    let at : slice_get steps (place - 1) ≡ Some step = slice_get_read steps (length steps) (place - 1) step refl (omega arith) c.index-steps-place.is in
    record {
      within = omega arith;
      searched = λ t.
          let long = length-map steps (step_of t) in
          subst (λ (cs : List (Command Drawn)). IsSearched t c.meet.new.self (met_in c.args.is_global cs))
          (sym (drop-front (steps_of t steps) place (step_of t step) c.loop-place-test.true (omega (arith, long)) (map_at (step_of t) steps (place - 1) step at)))
          (c.in_ok-meet.ensures.searched t (met_in c.args.is_global (drop place (steps_of t steps))) (was.searched t));
      over = λ t all. c.in_ok-meet.ensures.over t (all_at (IsStepOver t) steps (place - 1) step at all) (was.over t all);
      uses = λ t uses all. c.in_ok-meet.ensures.uses t uses (all_at (HaveUses t uses) steps (place - 1) step at all) (was.uses t uses all);
      closed = omega arith;
    }

pub loop-place-init : goal.loop-place-init
loop-place-init c =
    let steps = c.args.steps.now in
    let none = c.new-search.ensures.closed in
    record {
      within = omega arith;
      searched = λ t.
          let long = length-map steps (step_of t) in
          subst (IsSearched t c.new-search.result) (sym (at_drop_all (met_in c.args.is_global) (steps_of t steps) (length steps) (omega (arith, long)))) (c.new-search.ensures.searched t);
      over = λ t all. c.new-search.ensures.over t;
      uses = λ t uses all. c.new-search.ensures.uses t uses;
      closed = omega (arith, none);
    }

pub returns-clause-over : goal.returns-clause-over
returns-clause-over c = λ t all.
    let over = c.loop-place.invariant.over t all in
    record {
      given = subst (λ (ls : List LiveSymbol). All (IsLiveOver t) ls) (sym c.in_ok-given.ensures) over.given;
      idle = subst (λ (fs : List SymId). All (IsSymbol t) fs) (sym c.in_ok-idle.ensures) over.idle;
      functions = subst (λ (fs : List SymId). All (IsSymbol t) fs) (sym c.in_ok-functions.ensures) over.functions;
    }

pub returns-clause-uses : goal.returns-clause-uses
returns-clause-uses c = λ t uses all. subst (λ (ls : List LiveSymbol). All (HasUseOf t uses) ls) (sym c.in_ok-given.ensures) (c.loop-place.invariant.uses t uses all)
