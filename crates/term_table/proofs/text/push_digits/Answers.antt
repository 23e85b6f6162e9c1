use Rattle.std.proofs.Common.{◌/◌, ◌%◌, ◌*◌, ◌^◌, ◌-◌, ◌++◌, ◌∷◌, [], refl, ap, ◌∙◌, arith}
use Rattle.term_table.proofs.Texts.{next_digit, one_more, digit_below}
use Rattle.term_table.proofs.text.push_digits.Goals as goal

pub digit_of-requires : goal.digit_of-requires
digit_of-requires c = digit_below c.args.size _ c.requires.small.1

pub loop-k-preserved : goal.loop-k-preserved
loop-k-preserved c = record {
  text = next_digit c.args.out.now.items c.loop-k.out.items c.push.new.self.items c.args.size c.args.count c.loop-k.k c.args.bits _ _ c.loop-k-test.true refl
      (ap (λ m. c.args.bits / 2 ^ (c.args.size * (c.args.count - 1 - c.loop-k.k)) % m) (one_more c.args.size c.requires.small.1))
      c.loop-k.invariant.text (c.in_ok-push.ensures.items ∙ ap (λ d. c.loop-k.out.items ++ d ∷ []) c.digit_of.ensures);
  room = λ fits.
      let before = c.loop-k.invariant.room fits in
      let longer = c.in_ok-push.ensures.len in
      let larger = c.in_ok-push.ensures.capacity in
      let below = c.loop-k-test.true in
      omega arith;
}
