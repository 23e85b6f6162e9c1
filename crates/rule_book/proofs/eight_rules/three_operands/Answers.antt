use Rattle.std.proofs.Common.{length, inl, inr, ap, sym, ◌∙◌}
use Rattle.smt_terms.specs.Equal.{op_eq}
use Rattle.rule_book.specs.Operands.{all_three, cells_at}
use Rattle.rule_book.proofs.OperandsSeen.{other_op, that_op, three-found, three-missing, absent, present}
use Rattle.rule_book.proofs.eight_rules.three_operands.Goals as goal

pub returns-then-not-is : goal.returns-then-not-is
returns-then-not-is c =
    let view = c.args.view.now in
    absent (op_eq view.root c.args.root) (all_three (cells_at 0 view.cells)) (inl (other_op view.root c.args.root c.is.result c.is.ensures c.if-not-is.true))

pub returns-then-len-ne3 : goal.returns-then-len-ne3
returns-then-len-ne3 c =
    let view = c.args.view.now in
    let number = c.len.ensures.number ∙ ap length c.cells_under-operands.ensures in
    absent (op_eq view.root c.args.root) (all_three (cells_at 0 view.cells)) (inr (three-missing (cells_at 0 view.cells) (λ so. c.if-len-ne3.true (number ∙ so))))

pub returns : goal.returns
returns c =
    let view = c.args.view.now in
    let operands = c.cells_under-operands.result in
    three-found operands c.get.result c.get-2.result c.get-3.result (sym c.len.ensures.number ∙ c.if-len-ne3.false) c.get.ensures c.get-2.ensures c.get-3.ensures
    ∙ present (op_eq view.root c.args.root) (all_three (cells_at 0 view.cells)) (all_three operands) (that_op view.root c.args.root c.is.result c.is.ensures c.if-not-is.false) (ap all_three c.cells_under-operands.ensures)
