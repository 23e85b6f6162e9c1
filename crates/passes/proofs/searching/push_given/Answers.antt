use Rattle.std.proofs.Common.{◌∙◌, ◌∷◌, ◌++◌, ap, sym, subst, map, List, All, ◌-◌, arith}
use Rattle.std.proofs.lemmas.List.Elements.{All-cons}
use Rattle.term_groups.specs.Seen.{named_at}
use Rattle.passes.specs.declared.searching.LiveSymbol.{LiveSymbol}
use Rattle.passes.specs.LiveSymbols.{given_by, given_at, IsLiveOver, HasUseOf}
use Rattle.passes.specs.Plans.{HasUse, IsPairOver}
use Rattle.passes.proofs.ListPlaces.{all_at, drop-front}
use Rattle.passes.proofs.searching.push_given.Goals as goal

pub loop-place-preserved : goal.loop-place-preserved
loop-place-preserved c =
    let ps = c.args.symbols.now in
    let place = c.loop-place.place in
    let p = c.get.result in
    let was = c.loop-place.invariant in
    let within = was.within in
    let front = drop-front ps place p c.loop-place-test.true within c.get.ensures in
    let pushed = c.in_ok-push.ensures.ok in
    let one : LiveSymbol = record { assertion = c.args.assertion; symbol = p.0; term = p.1 } in
    record {
      within = omega arith;
      given = λ t.
          ap (map (given_at t)) pushed
          ∙ ap (λ gs. given_at t one ∷ gs) (was.given t)
          ∙ ap (λ qs. given_by c.args.assertion (named_at t qs) ++ map (given_at t) c.args.given.now) (sym front);
      over = λ t pairs before.
          subst (λ (ls : List LiveSymbol). All (IsLiveOver t) ls) (sym pushed)
          (All-cons (IsLiveOver t) one c.loop-place.given (all_at (IsPairOver t) ps (place - 1) p c.get.ensures pairs) (was.over t pairs before));
      uses = λ t uses pairs before.
          subst (λ (ls : List LiveSymbol). All (HasUseOf t uses) ls) (sym pushed)
          (All-cons (HasUseOf t uses) one c.loop-place.given (all_at (HasUse t uses) ps (place - 1) p c.get.ensures pairs) (was.uses t uses pairs before));
    }
