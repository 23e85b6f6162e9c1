use Rattle.std.proofs.Common.{◌≡◌, ◌+◌, ◌-◌, ap, sym, ◌∙◌, subst, arith}
use Rattle.ackermann.specs.LevelsAt.{Live, levels_at, open_levels, closed}
use Rattle.ackermann.specs.LiveUses.{AreUsesIn}
use Rattle.ackermann.proofs.ClosedLevels.{closed-more, closed-open, closed-levels, closed-live}
use Rattle.ackermann.proofs.live.Ack.pop.Goals as goal

pub loop-left-preserved : goal.loop-left-preserved
loop-left-preserved c =
    let a = c.loop-left.self in
    let n = c.close-left.result in
    let most = c.close-left.ensures.most in
    let there = c.close-left.ensures.within in
    let within = c.loop-left.invariant.within in
    let left = closed-open n a there in
    let fewer = ap open_levels c.close-left.ensures.closed in
    record {
      closed =
          ap (closed (c.loop-left.left - n)) c.close-left.ensures.closed
          ∙ sym (closed-more n (c.loop-left.left - n) a)
          ∙ ap (λ k. closed k a) (let e : n + (c.loop-left.left - n) ≡ c.loop-left.left = omega arith in e)
          ∙ c.loop-left.invariant.closed;
      within = omega (arith, left, fewer);
    }

pub returns-clause-levels : goal.returns-clause-levels
returns-clause-levels c t =
    let past = c.loop-left-test.false in
    let none : c.loop-left.left ≡ 0 = omega arith in
    ap (levels_at t) (subst (λ k. closed k c.loop-left.self ≡ closed c.args.levels c.args.self.now) none c.loop-left.invariant.closed)
    ∙ closed-levels t c.args.levels c.args.self.now c.requires

pub returns-clause-live : goal.returns-clause-live
returns-clause-live c t are =
    let past = c.loop-left-test.false in
    let none : c.loop-left.left ≡ 0 = omega arith in
    subst (λ (a : Live). AreUsesIn t a.uses) (sym (subst (λ k. closed k c.loop-left.self ≡ closed c.args.levels c.args.self.now) none c.loop-left.invariant.closed))
    (closed-live t c.args.levels c.args.self.now are)

pub returns-clause-open : goal.returns-clause-open
returns-clause-open c =
    let past = c.loop-left-test.false in
    let none : c.loop-left.left ≡ 0 = omega arith in
    let is = ap open_levels (subst (λ k. closed k c.loop-left.self ≡ closed c.args.levels c.args.self.now) none c.loop-left.invariant.closed) in
    let left = closed-open c.args.levels c.args.self.now c.requires in
    omega (arith, is, left)
