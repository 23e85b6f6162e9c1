use Rattle.std.proofs.Common.{sym, ◌∙◌}
use Rattle.rule_book_tests.proofs.ExclusiveRules.{two_cells}
use Rattle.rule_book_tests.proofs.tests.operands.Goals as goal

pub returns-clause-operands : goal.returns-clause-operands
returns-clause-operands c = two_cells c.args.view.now.cells c.get-first.result c.get-second.result (sym c.len.ensures.number ∙ c.if-len-ne2.false) c.get-first.ensures c.get-second.ensures c.if-first-ne0.false c.if-second-ne0.false
