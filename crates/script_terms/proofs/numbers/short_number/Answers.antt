use Rattle.std.proofs.Common.{◌≡◌, ◌≤◌, ◌<◌, ◌^◌, ℕ, ◌+◌, ◌*◌, length, get_or, arith, sym, ◌∙◌, ap}
use Rattle.std.proofs.Math.Nat.{mul-le-mul_left, pow-le-pow_right}
use Rattle.std.proofs.lemmas.Grind.{pow_more}
use Rattle.std.specs.Char.{digit_value}
use Rattle.std.proofs.lemmas.Int.Digits.{digits_value_more}
use Rattle.script_terms.proofs.numbers.short_number.Goals as goal

one_more : (n radix value before after : ℕ) → n ≡ before → after ≡ before * radix + value → n * radix + value ≡ after
one_more n radix value before after here more = ap (λ k. k * radix + value) here ∙ sym more

below_next : (number radix value i : ℕ) → radix ≤ 16 → value ≤ 36 → number + 3 ≤ 4 * 16 ^ i → number * radix + value + 3 ≤ 4 * 16 ^ (i + 1)
below_next number radix value i small digit below =
    let times : number * radix ≤ number * 16 = mul-le-mul_left number small in
    let more : 16 ^ (i + 1) ≡ 16 ^ i * 16 = pow_more 16 i in
    omega (arith, times, more, digit, below)

-- so many digits stay below 64 bits
below_word : (i : ℕ) → i ≤ 15 → 4 * 16 ^ i ≤ 2 ^ 62
below_word i few = let most : 16 ^ i ≤ 16 ^ 15 = pow-le-pow_right {n = 16} (omega arith) few in omega (arith, most)

module _ (number radix value i count : ℕ) (small : radix ≤ 16) (digit : value ≤ 36) (here : i < count) (few : count ≤ 15) (below : number + 3 ≤ 4 * 16 ^ i) where
  next_fits : number * radix + value < 2 ^ 62
  next_fits =
      let next = below_next number radix value i small digit below in
      let word = below_word (i + 1) (omega (arith, here, few)) in
      omega (arith, next, word)

pub overflow_mul-number : goal.overflow_mul-number
overflow_mul-number c =
    let fits = next_fits c.loop-digit.number c.args.radix 0 c.loop-digit.digit-index (length c.args.digits.now) c.requires.radix (omega arith) c.loop-digit-test.true c.requires.few c.loop-digit.invariant.1 in
    omega (arith, fits)

pub overflow_add-number : goal.overflow_add-number
overflow_add-number c =
    let fits = next_fits c.loop-digit.number c.args.radix c.digit_value.result c.loop-digit.digit-index (length c.args.digits.now) c.requires.radix c.digit_value.ensures.small c.loop-digit-test.true c.requires.few c.loop-digit.invariant.1 in
    omega (arith, fits, c.from.ensures)

pub loop-digit-preserved : goal.loop-digit-preserved
loop-digit-preserved c = (
  ap (λ k. c.loop-digit.number * c.args.radix + k) (c.from.ensures ∙ c.digit_value.ensures.value)
      ∙ one_more c.loop-digit.number c.args.radix (digit_value (get_or c.args.digits.now c.loop-digit.digit-index 0)) _ _ c.loop-digit.invariant.0 (digits_value_more c.args.radix c.args.digits.now c.loop-digit.digit-index c.loop-digit-test.true),
  (let next = below_next c.loop-digit.number c.args.radix c.digit_value.result c.loop-digit.digit-index c.requires.radix c.digit_value.ensures.small c.loop-digit.invariant.1 in omega (arith, next, c.from.ensures)),
)
