use Rattle.std.proofs.Common.{◌≡◌, ◌-◌, List, length, set, take, slice_get, Some, ap, sym, ◌∙◌, subst, arith, option_copied}
use Rattle.ackermann.specs.LevelsAt.{closed, starts_of, open_levels, AreStarts, AreOpened}
use Rattle.ackermann.specs.declared.live.Opened.{Opened}
use Rattle.ackermann.specs.declared.uses.LiveUse.{LiveUse}
use Rattle.ackermann.proofs.ClosedLevels.{all-invariant, all-closed, some-invariant, some-closed, within-open}
use Rattle.ackermann.proofs.live.Ack.close.Goals as goal

pub invariant_of-self : goal.invariant_of-self
invariant_of-self c =
    let us = c.self.inside.uses in
    let os = c.self.inside.opened.items in
    let o = c.unwrap-innermost.result.now in
    let at : slice_get os (length os - 1) ≡ Some o =
    ap (λ (ps : List Opened). slice_get ps (length ps - 1)) (sym c.deref.ensures.value) ∙ sym c.last.ensures.value ∙ ap option_copied c.unwrap-innermost.ensures in
    let rest = c.pop.ensures.rest ∙ ap (λ n. take (n - 1) os) c.self.inside.opened.ok.0 in
    let is = all-invariant us os o at c.self.invariant.0 c.self.invariant.1 in (
      subst AreOpened (sym rest) is.0,
      subst (λ (vs : List LiveUse). AreStarts (length vs) (starts_of c.pop.new.self.items)) (sym c.truncate.ensures)
          (subst (λ ps. AreStarts (length (take o.below us)) (starts_of ps)) (sym rest) is.1),
    )

pub returns-then-innermost-most-clause-within : goal.returns-then-innermost-most-clause-within
returns-then-innermost-most-clause-within c =
    let us = c.self.inside.uses in
    let os = c.self.inside.opened.items in
    let o = c.unwrap-innermost.result.now in
    let at : slice_get os (length os - 1) ≡ Some o =
    ap (λ (ps : List Opened). slice_get ps (length ps - 1)) (sym c.deref.ensures.value) ∙ sym c.last.ensures.value ∙ ap option_copied c.unwrap-innermost.ensures in
    let le = within-open us os o at in
    let open_is = ap open_levels c.self.view_is in
    omega (arith, le, open_is)

pub returns-then-innermost-most-clause-closed : goal.returns-then-innermost-most-clause-closed
returns-then-innermost-most-clause-closed c =
    let us = c.self.inside.uses in
    let os = c.self.inside.opened.items in
    let o = c.unwrap-innermost.result.now in
    let at : slice_get os (length os - 1) ≡ Some o =
    ap (λ (ps : List Opened). slice_get ps (length ps - 1)) (sym c.deref.ensures.value) ∙ sym c.last.ensures.value ∙ ap option_copied c.unwrap-innermost.ensures in
    let rest = c.pop.ensures.rest ∙ ap (λ n. take (n - 1) os) c.self.inside.opened.ok.0 in
    (λ i. record { uses = c.truncate.ensures i; starts = starts_of (rest i) })
    ∙ all-closed us os o at c.self.invariant.0
    ∙ ap (closed o.levels) c.self.view_is

pub invariant_of-self-2 : goal.invariant_of-self-2
invariant_of-self-2 c =
    let us = c.self.inside.uses in
    let os = c.self.inside.opened.items in
    let o = c.unwrap-innermost.result.now in
    let left : Opened = record { levels = o.levels - c.args.most; below = o.below } in
    let at : slice_get os (length os - 1) ≡ Some o =
    ap (λ (ps : List Opened). slice_get ps (length ps - 1)) (sym c.deref.ensures.value) ∙ sym c.last.ensures.value ∙ ap option_copied c.unwrap-innermost.ensures in
    let long = c.len-last.ensures ∙ c.self.inside.opened.ok.0 in
    let less = c.if-innermost-most.false in
    let is = some-invariant us os o at c.args.most c.requires.some (omega arith) c.self.invariant.0 c.self.invariant.1 in (
      subst (λ n. AreOpened (set os (n - 1) left)) (sym long) is.0,
      subst (λ n. AreStarts (length c.truncate.new.self) (starts_of (set os (n - 1) left))) (sym long)
          (subst (λ (vs : List LiveUse). AreStarts (length vs) (starts_of (set os (length os - 1) left))) (sym c.truncate.ensures) is.1),
    )

pub returns-clause-closed : goal.returns-clause-closed
returns-clause-closed c =
    let us = c.self.inside.uses in
    let os = c.self.inside.opened.items in
    let o = c.unwrap-innermost.result.now in
    let left : Opened = record { levels = o.levels - c.args.most; below = o.below } in
    let at : slice_get os (length os - 1) ≡ Some o =
    ap (λ (ps : List Opened). slice_get ps (length ps - 1)) (sym c.deref.ensures.value) ∙ sym c.last.ensures.value ∙ ap option_copied c.unwrap-innermost.ensures in
    let long = c.len-last.ensures ∙ c.self.inside.opened.ok.0 in
    let less = c.if-innermost-most.false in
    (λ i. record { uses = c.truncate.ensures i; starts = starts_of (set os (long i - 1) left) })
    ∙ some-closed us os o at c.args.most c.requires.some (omega arith)
    ∙ ap (closed c.args.most) c.self.view_is
