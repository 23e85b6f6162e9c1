use Rattle.std.proofs.Common.{◌≡◌, length}
use Rattle.smt_terms.specs.Fresh.{Supply}
use Rattle.quantifier_forms_tests.proofs.Spared.{AreMarked}
use Rattle.quantifier_forms_tests.proofs.tests.spared.is_spared.Given as goal

abbrev pub invariant-loop-number : goal.invariant-loop-number
invariant-loop-number l = record {
  count : length l.marks.items ≡ l.number;
  marked : (s : Supply) → AreMarked s l.table l.marks.items;
}
