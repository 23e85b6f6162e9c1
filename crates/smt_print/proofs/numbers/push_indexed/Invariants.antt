use Rattle.std.proofs.Common.{◌≡◌, ◌++◌, take}
use Rattle.std.specs.Prelude.{codes}
use Rattle.smt_print.proofs.NumberTexts.{spaced_numerals}
use Rattle.smt_print.proofs.numbers.push_indexed.Given as goal

abbrev pub invariant-loop-index : goal.invariant-loop-index
invariant-loop-index l = l.out ≡ l.fn.out ++ (codes "(_ " ++ (l.name ++ spaced_numerals (take l.index-index l.indices)))
