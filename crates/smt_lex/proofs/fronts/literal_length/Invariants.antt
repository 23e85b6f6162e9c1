use Rattle.std.proofs.Common.{◌-◌, length}
use Rattle.smt_lex.proofs.Literals.{Passed}
use Rattle.smt_lex.proofs.fronts.literal_length.Given as goal

abbrev pub invariant-loop-at : goal.invariant-loop-at
invariant-loop-at l = Passed l.text l.at

abbrev pub decreases-loop-at : goal.decreases-loop-at
decreases-loop-at l = length l.text - l.at
