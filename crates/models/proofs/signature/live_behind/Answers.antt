use Rattle.std.proofs.Common.{◌≡◌, ◌∙◌, sym, ap, ℕ, ◌≤◌, List, drop, arith}
use Rattle.smt_terms.specs.declared.ids.SortId.{SortId}
use Rattle.smt_terms.specs.declared.ids.SymId.{SymId}
use Rattle.models.specs.GoingBack.{Found, found_in}
use Rattle.models.proofs.FoundBack.{found-ended}
use Rattle.models.proofs.signature.live_behind.Goals as goal
use Rattle.models.proofs.signature.live_behind.Goals.{then-loop-place-test+else-not-begins_anew, else-loop-place-test}

none_left : (n : ℕ) → n ≤ 0 → n ≡ 0
none_left n h = omega (arith, h)

pub returns-clause-sorts : goal.returns-clause-sorts
returns-clause-sorts c =
    c.reverse.ensures.items ∙ c.loop-place.invariant.sorts ∙ (elim c.loop-place-test.branch [
      | then-loop-place-test+else-not-begins_anew w ↦
          sym (ap {B = List SortId} (λ (f : Found). f.sorts)
          (found-ended c.args.global c.args.commands.now c.loop-place.place w.index-commands-place.result w.loop-place-test.true c.loop-place.invariant.within w.index-commands-place.is
          (sym w.begins_anew.ensures ∙ w.if-not-begins_anew.false) c.loop-place.invariant.going))
      | else-loop-place-test w ↦ ap (λ n. (found_in c.args.global (drop n c.args.commands.now)).sorts) (none_left c.loop-place.place w.loop-place-test.false)
    ])

pub returns-clause-symbols : goal.returns-clause-symbols
returns-clause-symbols c =
    c.reverse-2.ensures.items ∙ c.loop-place.invariant.symbols ∙ (elim c.loop-place-test.branch [
      | then-loop-place-test+else-not-begins_anew w ↦
          sym (ap {B = List SymId} (λ (f : Found). f.symbols)
          (found-ended c.args.global c.args.commands.now c.loop-place.place w.index-commands-place.result w.loop-place-test.true c.loop-place.invariant.within w.index-commands-place.is
          (sym w.begins_anew.ensures ∙ w.if-not-begins_anew.false) c.loop-place.invariant.going))
      | else-loop-place-test w ↦ ap (λ n. (found_in c.args.global (drop n c.args.commands.now)).symbols) (none_left c.loop-place.place w.loop-place-test.false)
    ])
