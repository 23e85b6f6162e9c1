use Rattle.std.proofs.Common.{rules, ◌∙◌, ap, sym}
use Rattle.std.specs.Int.{w128}
use Rattle.std.proofs.lemmas.Int.{to_z-of_z}
use mir.Val.{SFits}
use Rattle.smt_terms.specs.Values.{number}
use Rattle.smt_values.proofs.OperandLaws.{operand_at, operand_past}
use Rattle.smt_values.proofs.apply.operands.whole_at.Goals as goal

pub returns-in-Some-clause-number : goal.returns-in-Some-clause-number
returns-in-Some-clause-number c =
    let fits : SFits w128 c.whole.result = search rules in
    to_z-of_z w128 c.whole.result fits ∙ c.whole.ensures.number ∙ ap number (sym (operand_at c.args.args.now c.args.i c.in-Some.scalar.now c.in-Some.ensures.lookup.3.0 c.in-Some.ensures.lookup.3.1))

pub returns-in-None-clause-number : goal.returns-in-None-clause-number
returns-in-None-clause-number c = ap number (sym (operand_past c.args.args.now c.args.i c.in-None.ensures.lookup.3))
