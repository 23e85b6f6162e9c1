use Rattle.std.proofs.Common.{◌≡◌, ◌+◌, ◌-◌, ap, sym, ◌∙◌, subst, count_by, arith}
use Rattle.script_terms.specs.Scope.{popped}
use Rattle.script_terms.specs.Known.{is_mark}
use Rattle.script_terms.proofs.Laying.{levels-popped, popped-none, popped-more}
use Rattle.script_terms.proofs.levels.Leveled.close.Goals as goal

pub loop-left-preserved : goal.loop-left-preserved
loop-left-preserved g c =
    let s = c.loop-left.self in
    let n = c.close_latest-left.result in
    let most = c.close_latest-left.ensures.most in
    let within = c.loop-left.invariant.within in
    let there = c.close_latest-left.ensures.within in
    let levels = ap (count_by is_mark) c.close_latest-left.ensures.popped ∙ levels-popped c.args.keeps n s in
    record {
      popped =
          ap (popped is_mark c.args.keeps (c.loop-left.left - n)) c.close_latest-left.ensures.popped
          ∙ sym (popped-more c.args.keeps n (c.loop-left.left - n) s)
          ∙ ap (λ k. popped is_mark c.args.keeps k s) (let e : n + (c.loop-left.left - n) ≡ c.loop-left.left = omega (arith, most) in e)
          ∙ c.loop-left.invariant.popped;
      within = omega (arith, within, levels);
    }

pub returns : goal.returns
returns g c =
    let past = c.loop-left-test.false in
    let none : c.loop-left.left ≡ 0 = omega (arith, past) in
    sym (popped-none c.args.keeps c.loop-left.self)
    ∙ subst (λ k. popped is_mark c.args.keeps k c.loop-left.self ≡ popped is_mark c.args.keeps c.args.n c.args.self.now) none c.loop-left.invariant.popped
