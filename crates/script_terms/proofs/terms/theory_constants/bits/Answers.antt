use Rattle.std.proofs.Common.{◌≡◌, ◌≤◌, ◌<◌, ◌^◌, refl, ℕ, Option, Some, None, MatchOption, IsSome, arith}
use Rattle.std.specs.Str.Parse.{digits_value}
use Rattle.std.proofs.lemmas.Int.Digits.{digits_value-lt}
use Rattle.script_terms.proofs.TheoryConstants.{power_most}
use Rattle.script_terms.proofs.terms.theory_constants.bits.Goals as goal

some_number : (o : Option ℕ) (n : ℕ) → n < 2 ^ 128 → MatchOption o (2 ^ 128 ≤ n) (λ m. m ≡ n) → IsSome o
some_number None n small large = absurd (omega (arith, small, large))
some_number (Some m) n small is = refl

pub unwrap-requires : goal.unwrap-requires
unwrap-requires c =
    let less = digits_value-lt c.args.radix c.args.digits.now c.requires.digits.1 in
    let most = power_most c.args.width c.requires.most in
    some_number c.number_of.result (digits_value c.args.radix c.args.digits.now) (omega (arith, less, c.requires.width, most)) c.number_of.ensures

pub returns-clause-small : goal.returns-clause-small
returns-clause-small c =
    let less = digits_value-lt c.args.radix c.args.digits.now c.requires.digits.1 in
    omega (arith, less, c.requires.width)
