use Rattle.std.proofs.Common.{sym, subst}
use Rattle.std.specs.Str.Parse.{IsNumeral}
use Rattle.script_terms.specs.ConstantClauses.{HasDigits, GivesConstant, hexadecimal_in, binary_in, constant_in}
use Rattle.script_terms.proofs.TheoryConstants.{gives_same, hexadecimal_text, binary_text, other_text}
use Rattle.script_terms.proofs.terms.theory_constants.constant_of.Goals as goal

pub hexadecimal-requires : goal.hexadecimal-requires
hexadecimal-requires c = subst (IsNumeral 16) (sym c.digits_of.ensures) (subst (λ item. HasDigits item c.args.text.now) c.in-Hex.is c.requires)

pub binary-requires : goal.binary-requires
binary-requires c = subst (IsNumeral 2) (sym c.digits_of-in-Bin.ensures) (subst (λ item. HasDigits item c.args.text.now) c.in-Bin.is c.requires)

pub returns-in-Numeral-clause-constant : goal.returns-in-Numeral-clause-constant
returns-in-Numeral-clause-constant c =
    subst (λ item. GivesConstant (λ place. constant_in place item c.args.text.now) c.whole.result) (sym c.in-Numeral.is) c.whole.ensures.constant

pub returns-in-Hex-clause-constant : goal.returns-in-Hex-clause-constant
returns-in-Hex-clause-constant c =
    subst (λ item. GivesConstant (λ place. constant_in place item c.args.text.now) c.hexadecimal.result) (sym c.in-Hex.is)
    (gives_same _ (λ place. hexadecimal_in place c.digits_of.result.now) c.hexadecimal.result (λ place. hexadecimal_text place c.args.text.now c.digits_of.result.now c.digits_of.ensures) c.hexadecimal.ensures.constant)

pub returns-in-Bin-clause-constant : goal.returns-in-Bin-clause-constant
returns-in-Bin-clause-constant c =
    subst (λ item. GivesConstant (λ place. constant_in place item c.args.text.now) c.binary.result) (sym c.in-Bin.is)
    (gives_same _ (λ place. binary_in place c.digits_of-in-Bin.result.now) c.binary.result (λ place. binary_text place c.args.text.now c.digits_of-in-Bin.result.now c.digits_of-in-Bin.ensures) c.binary.ensures.constant)

pub returns-in_default-clause-constant : goal.returns-in_default-clause-constant
returns-in_default-clause-constant c place = other_text place c.args.item c.args.text.now c.in_default.not-Numeral c.in_default.not-Hex c.in_default.not-Bin c.in_default.not-Decimal
