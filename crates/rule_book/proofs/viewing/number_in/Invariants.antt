use Rattle.std.proofs.Common.{◌≡◌, ◌+◌, drop}
use Rattle.rule_book.proofs.HolesInOrder.{number}
use Rattle.rule_book.proofs.viewing.number_in.Given as goal

abbrev pub invariant-loop-number : goal.invariant-loop-number
invariant-loop-number l = number l.table l.holes l.id ≡ l.number + number l.table (drop l.number l.holes) l.id
