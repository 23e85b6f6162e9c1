use Rattle.std.proofs.Common.{◌≡◌, drop}
use Rattle.smt_values.specs.SortIds.{is_plain}
use Rattle.smt_print_tests.proofs.tests.terms.is_plain.Given as goal

abbrev pub invariant-loop-byte : goal.invariant-loop-byte
invariant-loop-byte l = is_plain l.name ≡ is_plain (drop l.byte-index l.name)
