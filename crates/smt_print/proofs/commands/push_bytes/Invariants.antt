use Rattle.std.proofs.Common.{◌≡◌, ◌++◌, take}
use Rattle.smt_print.proofs.commands.push_bytes.Given as goal

abbrev pub invariant-loop-i : goal.invariant-loop-i
invariant-loop-i l = l.out ≡ l.fn.out ++ take l.i l.bytes
