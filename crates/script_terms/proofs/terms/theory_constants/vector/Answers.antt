use Rattle.std.proofs.Common.{◌≤◌, ◌^◌, Ok, sym, ap, ◌∙◌, arith}
use Rattle.std.specs.Str.Parse.{digits_value}
use Rattle.smt_terms.specs.declared.op.Op.TheVariants.{Bits}
use Rattle.smt_terms.specs.Term.{op, apply, none}
use Rattle.script_terms.proofs.TheoryConstants.{power_most, no_fit, bits_is, no_width, too_wide, too_large, vector_reads}
use Rattle.script_terms.proofs.terms.theory_constants.vector.Goals as goal

pub returns-then-width-eq0-clause-constant : goal.returns-then-width-eq0-clause-constant
returns-then-width-eq0-clause-constant c place = no_width place (digits_value 10 c.args.digits.now) c.args.width c.if-width-eq0.true

pub returns-then-width-clause-constant : goal.returns-then-width-clause-constant
returns-then-width-clause-constant c place = too_wide place (digits_value 10 c.args.digits.now) c.args.width c.if-width.true

pub returns-in_default-clause-constant : goal.returns-in_default-clause-constant
returns-in_default-clause-constant c place =
    let most = power_most c.args.width c.if-width.false in
    let large : 2 ^ c.args.width ≤ digits_value 10 c.args.digits.now = omega (arith, most, c.in_default.ensures) in
    too_large place (digits_value 10 c.args.digits.now) c.args.width (omega (arith, c.if-width-eq0.false)) c.if-width.false large

pub returns-then-not-fits-clause-constant : goal.returns-then-not-fits-clause-constant
returns-then-not-fits-clause-constant c place =
    let large = no_fit c.fits.result c.in-Some.bits (2 ^ c.args.width) c.fits.ensures c.if-not-fits.true in
    too_large place (digits_value 10 c.args.digits.now) c.args.width (omega (arith, c.if-width-eq0.false)) c.if-width.false (omega (arith, large, c.in-Some.ensures))

pub returns-clause-constant : goal.returns-clause-constant
returns-clause-constant c place =
    let small = c.fits.ensures.0 c.if-not-fits.false in
    vector_reads place (digits_value 10 c.args.digits.now) c.args.width (omega (arith, c.if-width-eq0.false)) c.if-width.false (omega (arith, small, c.in-Some.ensures))
    ∙ ap (λ n. Ok (apply (op (Bits c.args.width n)) none)) (sym c.in-Some.ensures)

pub returns-clause-is : goal.returns-clause-is
returns-clause-is c = bits_is c.args.width c.in-Some.bits (omega (arith, c.if-width-eq0.false)) c.if-width.false (c.fits.ensures.0 c.if-not-fits.false)
