use Rattle.std.proofs.Common.{◌≤◌, length, Ok, sym, ap, ◌∙◌, subst, arith}
use Rattle.std.specs.Str.Parse.{digits_value}
use Rattle.smt_terms.specs.Term.{op, apply, none}
use Rattle.script_terms.specs.ConstantClauses.{IsConstantOp}
use Rattle.script_terms.proofs.TheoryConstants.{bits_is, binary_reads, binary_refused}
use Rattle.script_terms.proofs.terms.theory_constants.binary.Goals as goal

pub returns-then-digits-gt128-clause-constant : goal.returns-then-digits-gt128-clause-constant
returns-then-digits-gt128-clause-constant c place = binary_refused place c.args.digits.now c.if-digits-gt128.true

pub returns-clause-constant : goal.returns-clause-constant
returns-clause-constant c place = binary_reads place c.args.digits.now c.if-digits-gt128.false ∙ ap (λ o. Ok (apply (op o) none)) (sym c.bits.ensures.bits)

pub returns-clause-is : goal.returns-clause-is
returns-clause-is c =
    let least : 1 ≤ length c.args.digits.now = omega (arith, c.requires.0) in
    subst IsConstantOp (sym c.bits.ensures.bits) (bits_is (length c.args.digits.now) (digits_value 2 c.args.digits.now) least c.if-digits-gt128.false c.bits.ensures.small)
