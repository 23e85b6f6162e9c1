use Rattle.std.proofs.Common.{rules, ◌≡◌, pos, to_z, subst}
use mir.Syntax.{w128}
use Rattle.smt_terms.specs.declared.op.Op.TheVariants.{Whole}
use Rattle.script_terms.specs.ConstantClauses.{IsConstantOp}
use Rattle.script_terms.proofs.TheoryConstants.{whole_is}
use Rattle.script_terms.proofs.terms.theory_constants.whole.Goals as goal

pub returns-in-Some-clause-is : goal.returns-in-Some-clause-is
returns-in-Some-clause-is c =
    let same : pos c.in-Some.number ≡ to_z w128 c.in-Some.number = search rules in
    subst (λ z. IsConstantOp (Whole z)) same (whole_is c.in-Some.number c.if-number-lt-GREATEST.true)
