use Rattle.std.proofs.Common.{length, inl, inr, ap, sym, ◌∙◌}
use Rattle.smt_terms.specs.Equal.{op_eq}
use Rattle.rule_book.specs.Operands.{both, cells_at}
use Rattle.rule_book.proofs.OperandsSeen.{other_op, that_op, both-found, both-missing, absent, present}
use Rattle.rule_book.proofs.eight_rules.two_operands.Goals as goal

pub returns-then-not-is : goal.returns-then-not-is
returns-then-not-is c =
    let view = c.args.view.now in
    absent (op_eq view.root c.args.root) (both (cells_at 0 view.cells)) (inl (other_op view.root c.args.root c.is.result c.is.ensures c.if-not-is.true))

pub returns-then-len-ne2 : goal.returns-then-len-ne2
returns-then-len-ne2 c =
    let view = c.args.view.now in
    let number = c.len.ensures.number ∙ ap length c.cells_under-operands.ensures in
    absent (op_eq view.root c.args.root) (both (cells_at 0 view.cells)) (inr (both-missing (cells_at 0 view.cells) (λ so. c.if-len-ne2.true (number ∙ so))))

pub returns : goal.returns
returns c =
    let view = c.args.view.now in
    let operands = c.cells_under-operands.result in
    both-found operands c.get.result c.get-2.result (sym c.len.ensures.number ∙ c.if-len-ne2.false) c.get.ensures c.get-2.ensures
    ∙ present (op_eq view.root c.args.root) (both (cells_at 0 view.cells)) (both operands) (that_op view.root c.args.root c.is.result c.is.ensures c.if-not-is.false) (ap both c.cells_under-operands.ensures)
