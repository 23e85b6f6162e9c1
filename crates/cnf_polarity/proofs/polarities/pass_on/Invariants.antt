use Rattle.cnf_polarity.proofs.PassedMarks.{Passing}
use Rattle.cnf_polarity.proofs.polarities.pass_on.Given as goal

abbrev pub invariant-loop-operand : goal.invariant-loop-operand
invariant-loop-operand l = Passing l.table l.connective l.polarities l.kids l.operand l.fn.occurrences l.occurrences
