use Rattle.std.proofs.Common.{◌≡◌, ◌++◌}
use Rattle.model_texts.specs.Printing.{repeated}
use Rattle.model_texts.proofs.print_values.push_repeated.Given as goal

abbrev pub invariant-loop : goal.invariant-loop
invariant-loop l = l.out.items ≡ l.fn.out.items ++ repeated l.counter l.part
