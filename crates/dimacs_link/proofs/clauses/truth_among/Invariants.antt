use Rattle.std.proofs.Common.{◌≡◌, List, drop, false}
use Rattle.smt_terms.specs.Sorts.{Symbol}
use Rattle.term_table.specs.Formulas.{trees_at}
use Rattle.dimacs_link.specs.Constants.{AreNumbersOf}
use Rattle.dimacs_link.proofs.PartLists.{truth_from}
use Rattle.dimacs_link.proofs.clauses.truth_among.Given as goal

abbrev pub invariant-loop-operand : goal.invariant-loop-operand
invariant-loop-operand l =
    (cs : List Symbol) → AreNumbersOf l.table cs l.numbers → truth_from cs l.found (trees_at l.table (drop l.operand-index l.operands)) ≡ truth_from cs false (trees_at l.table l.operands)
