use Rattle.std.proofs.Common.{◌≡◌, ℕ, ◌+◌, ◌*◌, ◌^◌, ◌≤◌, List, [], ◌∷◌, get_or, drop, ap, sym, ◌∙◌, arith, inl, inr}
use Rattle.std.proofs.lemmas.List.{at_drop_more}
use Rattle.std.proofs.lemmas.Bool.{cases_lt}
use Rattle.std.specs.Char.{digit_value}
use Rattle.std.specs.Str.Parse.{digits_value_after}
use Rattle.script_terms.specs.Places.{capped}
use Rattle.script_terms.proofs.places.capped_value.Goals as goal

-- more digits make no number smaller
after_least : (n : ℕ) (ds : List ℕ) → n ≤ digits_value_after 10 n ds
after_least n [] = omega arith
after_least n (d ∷ ds) = let more = after_least (n * 10 + digit_value d) ds in omega (arith, more)

capped_here : (n : ℕ) → n ≤ 2 ^ 127 → capped n ≡ n
capped_here n small = omega (arith, small)

capped_most : (n : ℕ) → 2 ^ 127 ≤ n → capped n ≡ 2 ^ 127
capped_most n large = omega (arith, large)

capped_after : (n : ℕ) (ds : List ℕ) → capped (digits_value_after 10 (capped n) ds) ≡ capped (digits_value_after 10 n ds)
capped_after n ds = elim (cases_lt n (2 ^ 127)) [
  | inl small ↦ ap (λ m. capped (digits_value_after 10 m ds)) (capped_here n (omega (arith, small)))
  | inr large ↦
      let least = after_least n ds in
      let least_capped = after_least (capped n) ds in
      let most = capped_most n large in
      capped_most (digits_value_after 10 (capped n) ds) (omega (arith, least_capped, most)) ∙ sym (capped_most (digits_value_after 10 n ds) (omega (arith, least, large)))
]

pub loop-digit-preserved : goal.loop-digit-preserved
loop-digit-preserved c = (
  ap (λ n. capped (digits_value_after 10 n (drop (c.loop-digit.digit-index + 1) c.args.digits.now))) c.with_digit-value.ensures
      ∙ capped_after (c.loop-digit.value * 10 + digit_value (get_or c.args.digits.now c.loop-digit.digit-index 0)) (drop (c.loop-digit.digit-index + 1) c.args.digits.now)
      ∙ sym (at_drop_more (λ ds. capped (digits_value_after 10 c.loop-digit.value ds)) c.args.digits.now c.loop-digit.digit-index 0 c.loop-digit-test.true)
      ∙ c.loop-digit.invariant.0,
  omega (arith, c.with_digit-value.ensures),
)
