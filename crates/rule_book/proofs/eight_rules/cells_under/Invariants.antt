use Rattle.std.proofs.Common.{◌≡◌, take}
use Rattle.rule_book.specs.Operands.{cells_at}
use Rattle.rule_book.proofs.eight_rules.cells_under.Given as goal

abbrev pub invariant-loop-i : goal.invariant-loop-i
invariant-loop-i l = l.found ≡ cells_at l.up (take l.i l.view.cells)
