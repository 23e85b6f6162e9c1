use Rattle.std.proofs.Common.{◌∙◌, ap, sym}
use Rattle.smt_terms.specs.Values.{is_true}
use Rattle.smt_values.proofs.OperandLaws.{operand_at, operand_past}
use Rattle.smt_values.proofs.apply.operands.truth_at.Goals as goal

pub returns-in-Some : goal.returns-in-Some
returns-in-Some c = c.truth.ensures ∙ ap is_true (sym (operand_at c.args.args.now c.args.i c.in-Some.scalar.now c.in-Some.ensures.lookup.3.0 c.in-Some.ensures.lookup.3.1))

pub returns-in-None : goal.returns-in-None
returns-in-None c = ap is_true (sym (operand_past c.args.args.now c.args.i c.in-None.ensures.lookup.3))
