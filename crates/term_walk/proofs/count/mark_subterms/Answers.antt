use Rattle.std.proofs.Common.{◌≡◌, ◌<◌, suc, ◌-◌, ◌∙◌, subst, arith}
use Rattle.term_walk.specs.Marks.{AreMarkedFrom}
use Rattle.term_walk.proofs.Marks.{marked-roots}
use Rattle.term_walk.proofs.count.mark_subterms.Goals as goal

pub loop-number-init : goal.loop-number-init
loop-number-init c = record {
  len = c.mark.ensures.len ∙ c.in_ok-marks.ensures.len;
  number = omega arith;
  marks = marked-roots c.args.table.now c.args.roots.now c.number_above-above.result c.in_ok-marks.marks.items c.mark.new.marks.items c.requires c.in_ok-marks.ensures.none c.mark.ensures.marks c.number_above-above.ensures.above;
}

pub loop-number-preserved : goal.loop-number-preserved
loop-number-preserved c =
    let some : 0 < c.loop-number.number = c.loop-number-test.true in
    let back : c.loop-number.number ≡ suc (c.loop-number.number - 1) = omega arith in
    record {
      len = c.mark_operands.ensures.len ∙ c.loop-number.invariant.len;
      number = omega (arith, c.loop-number.invariant.number);
      marks = c.mark_operands.ensures.marks c.args.roots.now (subst (λ (n : _). AreMarkedFrom c.args.table.now c.args.roots.now n c.loop-number.marks.items) back c.loop-number.invariant.marks);
    }
