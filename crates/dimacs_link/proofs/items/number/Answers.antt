use Rattle.std.proofs.Common.{◌≡◌, ◌∙◌, sym, ap, ◌+◌, ◌-◌, ◌*◌, get_or, drop, arith}
use Rattle.std.specs.Str.Parse.{digits_value_after}
use Rattle.dimacs_link.proofs.Digits.{at_least, next_digit}
use Rattle.dimacs_link.proofs.items.number.Goals as goal

pub returns-then-more-from : goal.returns-then-more-from
returns-then-more-from c =
    let ds = c.args.digits.now in
    let i = c.loop-digit.digit-index in
    let n = c.loop-digit.number in
    let next = next_digit ds i n c.requires c.loop-digit-test.true in
    let least = at_least (10 * n + (get_or ds i 0 - 48)) (drop (i + 1) ds) in
    omega (arith, sym c.loop-digit.invariant.value ∙ next, least)

pub loop-digit-preserved : goal.loop-digit-preserved
loop-digit-preserved c =
    let ds = c.args.digits.now in
    let i = c.loop-digit.digit-index in
    let n = c.loop-digit.number in
    let more : 10 * c.from.result + c.from-in-loop-digit.result ≡ 10 * n + (get_or ds i 0 - 48) = cc in
    record {
      below = omega arith;
      value =
          ap (λ m. digits_value_after 10 m (drop (i + 1) ds)) more
          ∙ sym (next_digit ds i n c.requires c.loop-digit-test.true)
          ∙ c.loop-digit.invariant.value;
    }
