use Rattle.std.proofs.Common.{◌≡◌, drop}
use Rattle.script_terms.proofs.locals.Locals.leave.Given as goal

abbrev pub invariant-loop : goal.invariant-loop
invariant-loop l = l.self ≡ drop l.counter l.initial.self
