use Rattle.std.proofs.Common.{rules, ◌∙◌, ap, sym}
use Rattle.std.specs.Int.{w128}
use Rattle.std.proofs.lemmas.Int.{to_z-of_z}
use mir.Val.{SFits}
use Rattle.smt_terms.specs.Values.{number}
use Rattle.smt_values.proofs.OperandLaws.{operand_at, operand_past}
use Rattle.evaluation.proofs.operators.scalars.whole_at.Goals as goal

pub returns-in-Some : goal.returns-in-Some
returns-in-Some c =
    let fits : SFits w128 c.whole.result = search rules in
    to_z-of_z w128 c.whole.result fits ∙ c.whole.ensures ∙ ap number (sym (operand_at c.args.args.now c.args.place c.in-Some.scalar.now c.in-Some.ensures.lookup.3.0 c.in-Some.ensures.lookup.3.1))

pub returns-in-None : goal.returns-in-None
returns-in-None c = ap number (sym (operand_past c.args.args.now c.args.place c.in-None.ensures.lookup.3))
