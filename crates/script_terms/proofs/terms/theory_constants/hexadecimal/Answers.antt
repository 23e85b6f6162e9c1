use Rattle.std.proofs.Common.{◌≡◌, ◌≤◌, ◌^◌, ◌+◌, ◌*◌, ℕ, zero, suc, length, Ok, refl, sym, ap, ◌∙◌, subst, arith}
use Rattle.std.proofs.Math.Nat.{pow-suc}
use Rattle.std.proofs.lemmas.Nat.{pow-add}
use Rattle.std.specs.Str.Parse.{digits_value}
use Rattle.smt_terms.specs.Term.{op, apply, none}
use Rattle.script_terms.specs.ConstantClauses.{IsConstantOp}
use Rattle.script_terms.proofs.TheoryConstants.{bits_is, hexadecimal_reads, hexadecimal_refused}
use Rattle.script_terms.proofs.terms.theory_constants.hexadecimal.Goals as goal

-- a digit has four bits
hexadecimal_power : (n : ℕ) → 16 ^ n ≡ 2 ^ (4 * n)
hexadecimal_power zero = refl
hexadecimal_power (suc n) =
    let four : 4 * n + 4 ≡ 4 * suc n = omega arith in
    pow-suc 16 n ∙ ap (λ k. k * 16) (hexadecimal_power n) ∙ sym (pow-add 2 (4 * n) 4) ∙ ap (λ k. 2 ^ k) four

pub bits-requires-clause-width : goal.bits-requires-clause-width
bits-requires-clause-width c = hexadecimal_power (length c.args.digits.now)

pub returns-then-digits-gt32-clause-constant : goal.returns-then-digits-gt32-clause-constant
returns-then-digits-gt32-clause-constant c place = hexadecimal_refused place c.args.digits.now c.if-digits-gt32.true

pub returns-clause-constant : goal.returns-clause-constant
returns-clause-constant c place = hexadecimal_reads place c.args.digits.now c.if-digits-gt32.false ∙ ap (λ o. Ok (apply (op o) none)) (sym c.bits.ensures.bits)

pub returns-clause-is : goal.returns-clause-is
returns-clause-is c =
    let least : 1 ≤ 4 * length c.args.digits.now = omega (arith, c.requires.0) in
    let most : 4 * length c.args.digits.now ≤ 128 = omega (arith, c.if-digits-gt32.false) in
    subst IsConstantOp (sym c.bits.ensures.bits) (bits_is (4 * length c.args.digits.now) (digits_value 16 c.args.digits.now) least most c.bits.ensures.small)
