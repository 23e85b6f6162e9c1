use Rattle.std.proofs.Common.{◌≡◌, ◌≤◌, ◌^◌, ℕ, ◌+◌, ◌*◌, get_or, arith, sym, ◌∙◌, ap}
use Rattle.std.specs.Str.Parse.{digits_value}
use Rattle.std.specs.Char.{digit_value}
use Rattle.std.proofs.lemmas.Int.Digits.{digits_value_more}
use Rattle.std.proofs.lemmas.Str.Parse.{digits_value-take-le}
use Rattle.model_texts.proofs.literals.number_of.Goals as goal

-- the number with one digit more
one_more : (n m sum radix value before after : ℕ) → n ≡ before → m ≡ n * radix → sum ≡ m + value → after ≡ before * radix + value → sum ≡ after
one_more n m sum radix value before after here shifted added more = added ∙ ap (λ k. k + value) (shifted ∙ ap (λ k. k * radix) here) ∙ sym more

pub loop-digit-preserved : goal.loop-digit-preserved
loop-digit-preserved c =
    one_more c.loop-digit.number c.in_ok-shifted.shifted c.in_ok-number.number c.args.radix (digit_value (get_or c.args.digits.now c.loop-digit.digit-index 0)) _ _
    c.loop-digit.invariant c.in_ok-shifted.ensures.1 (c.in_ok-number.ensures.1 ∙ ap (λ k. c.in_ok-shifted.shifted + k) (c.from.ensures ∙ c.digit_value.ensures.value))
    (digits_value_more c.args.radix c.args.digits.now c.loop-digit.digit-index c.loop-digit-test.true)

module _ (n radix value before after whole : ℕ) (here : n ≡ before) (more : after ≡ before * radix + value) (least : after ≤ whole) where
  shifted_least : n * radix ≤ whole
  shifted_least = let same : n * radix ≡ before * radix = ap (λ k. k * radix) here in omega (arith, same, more, least)

  added_least : (m : ℕ) → m ≡ n * radix → m + value ≤ whole
  added_least m shifted = let same : n * radix ≡ before * radix = ap (λ k. k * radix) here in omega (arith, same, shifted, more, least)

pub returns-in_err-shifted : goal.returns-in_err-shifted
returns-in_err-shifted c =
    let more = digits_value_more c.args.radix c.args.digits.now c.loop-digit.digit-index c.loop-digit-test.true in
    let least = digits_value-take-le c.args.radix c.args.digits.now (c.loop-digit.digit-index + 1) c.requires in
    let reached = shifted_least c.loop-digit.number c.args.radix _ _ _ (digits_value c.args.radix c.args.digits.now) c.loop-digit.invariant more least in
    let large : 2 ^ 128 ≤ digits_value c.args.radix c.args.digits.now = omega (arith, reached, c.in_err-shifted.ensures) in
    rw c.from_residual.ensures large

pub returns-in_err-number : goal.returns-in_err-number
returns-in_err-number c =
    let more = digits_value_more c.args.radix c.args.digits.now c.loop-digit.digit-index c.loop-digit-test.true in
    let least = digits_value-take-le c.args.radix c.args.digits.now (c.loop-digit.digit-index + 1) c.requires in
    let reached = added_least c.loop-digit.number c.args.radix _ _ _ (digits_value c.args.radix c.args.digits.now) c.loop-digit.invariant more least c.in_ok-shifted.shifted c.in_ok-shifted.ensures.1 in
    let large : 2 ^ 128 ≤ digits_value c.args.radix c.args.digits.now = omega (arith, reached, c.from.ensures, c.digit_value.ensures.value, c.in_err-number.ensures) in
    rw c.from_residual-in_err-number.ensures large
