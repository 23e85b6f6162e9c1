use Rattle.std.proofs.Common.{◌∙◌, ◌∷◌, ◌++◌, ◌-◌, ap, sym, subst, map, List, All, arith}
use Rattle.std.proofs.lemmas.List.Elements.{All-cons}
use Rattle.smt_terms.specs.declared.ids.SymId.{SymId}
use Rattle.term_groups.specs.Seen.{named_at}
use Rattle.term_table.specs.Formulas.{symbol_at, IsSymbol}
use Rattle.passes.specs.Plans.{IsPairOver}
use Rattle.passes.proofs.ListPlaces.{all_at, drop-front}
use Rattle.passes.proofs.searching.push_idle.Goals as goal

pub loop-place-preserved : goal.loop-place-preserved
loop-place-preserved c =
    let ps = c.args.symbols.now in
    let place = c.loop-place.place in
    let p = c.get.result in
    let was = c.loop-place.invariant in
    let within = was.within in
    let front = drop-front ps place p c.loop-place-test.true within c.get.ensures in
    let pushed = c.in_ok-push.ensures.ok in
    record {
      within = omega arith;
      idle = λ t.
          ap (map (symbol_at t)) pushed
          ∙ ap (λ fs. symbol_at t p.0 ∷ fs) (was.idle t)
          ∙ ap (λ qs. map (λ n. n.0) (named_at t qs) ++ map (symbol_at t) c.args.idle.now) (sym front);
      over = λ t pairs before.
          subst (λ (fs : List SymId). All (IsSymbol t) fs) (sym pushed)
          (All-cons (IsSymbol t) p.0 c.loop-place.idle (all_at (IsPairOver t) ps (place - 1) p c.get.ensures pairs).0 (was.over t pairs before));
    }
