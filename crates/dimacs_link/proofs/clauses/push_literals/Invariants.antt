use Rattle.std.proofs.Common.{◌≡◌, List, ◌++◌, take}
use Rattle.smt_terms.specs.Sorts.{Symbol}
use Rattle.term_table.specs.Formulas.{trees_at}
use Rattle.dimacs_link.specs.Clauses.{literals, literals_text}
use Rattle.dimacs_link.specs.Constants.{AreNumbersOf}
use Rattle.dimacs_link.proofs.clauses.push_literals.Given as goal

abbrev pub invariant-loop-operand : goal.invariant-loop-operand
invariant-loop-operand l =
    (cs : List Symbol) → AreNumbersOf l.table cs l.numbers → l.text.items ≡ l.fn.text.items ++ literals_text (literals cs (trees_at l.table (take l.operand-index l.operands)))
