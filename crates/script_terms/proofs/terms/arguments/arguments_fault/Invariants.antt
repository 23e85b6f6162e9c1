use Rattle.std.proofs.Common.{◌≡◌, drop}
use Rattle.script_terms.proofs.ArgumentsRanked.{misfit_from}
use Rattle.script_terms.proofs.terms.arguments.arguments_fault.Given as goal

abbrev pub invariant-loop-i : goal.invariant-loop-i
invariant-loop-i l = misfit_from l.table 0 l.params l.arguments ≡ misfit_from l.table l.i (drop l.i l.params) (drop l.i l.arguments)
