use Rattle.std.proofs.Common.{◌≡◌, drop}
use Rattle.script_terms.specs.Bound.{entered}
use Rattle.script_terms.proofs.terms.quantifiers.enter.Given as goal

abbrev pub invariant-loop-i : goal.invariant-loop-i
invariant-loop-i l = entered l.forest.tokens (drop l.i l.variables) (drop l.i l.constants) l.locals ≡ entered l.forest.tokens l.variables l.constants l.initial.locals
