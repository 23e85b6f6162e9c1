use Rattle.std.proofs.Common.{◌≡◌}
use Rattle.smt_print.proofs.names.Printed.of_script.Given as goal

abbrev pub invariant-loop-i : goal.invariant-loop-i
invariant-loop-i l = l.printed ≡ l.fn.table
