use Rattle.std.proofs.Common.{length, inl, inr, ap, sym, ◌∙◌}
use Rattle.rule_book.specs.EightRules.{is_op}
use Rattle.rule_book.specs.Operands.{only, cells_at}
use Rattle.rule_book.proofs.OperandsSeen.{only-found, only-missing, absent, present}
use Rattle.rule_book.proofs.eight_rules.operand_below.Goals as goal

pub returns-then-not-shows : goal.returns-then-not-shows
returns-then-not-shows c =
    absent (is_op c.args.op c.args.cell.op) (only (cells_at c.args.up c.args.view.now.cells)) (inl (sym c.shows.ensures ∙ c.if-not-shows.true))

pub returns-then-len-ne1 : goal.returns-then-len-ne1
returns-then-len-ne1 c =
    let cells = cells_at c.args.up c.args.view.now.cells in
    let number = c.len.ensures.number ∙ ap length c.cells_under-operands.ensures in
    absent (is_op c.args.op c.args.cell.op) (only cells) (inr (only-missing cells (λ so. c.if-len-ne1.true (number ∙ so))))

pub returns : goal.returns
returns c =
    let operands = c.cells_under-operands.result in
    only-found operands c.get.result (sym c.len.ensures.number ∙ c.if-len-ne1.false) c.get.ensures
    ∙ present (is_op c.args.op c.args.cell.op) (only (cells_at c.args.up c.args.view.now.cells)) (only operands) (sym c.shows.ensures ∙ c.if-not-shows.false) (ap only c.cells_under-operands.ensures)
