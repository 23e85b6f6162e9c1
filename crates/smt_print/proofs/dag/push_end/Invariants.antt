use Rattle.std.proofs.Common.{◌≡◌, ◌++◌, replicate}
use Rattle.smt_print.proofs.dag.push_end.Given as goal

abbrev pub invariant-loop : goal.invariant-loop
invariant-loop l = l.text ≡ l.initial.text ++ replicate l.counter 41
