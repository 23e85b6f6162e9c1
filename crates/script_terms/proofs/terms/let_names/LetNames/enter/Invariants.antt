use Rattle.std.proofs.Common.{◌≡◌, ◌≤◌, ◌++◌, map, drop, length}
use Rattle.script_terms.specs.Bound.{let_local}
use Rattle.script_terms.proofs.terms.let_names.LetNames.enter.Given as goal

abbrev pub invariant-loop-place : goal.invariant-loop-place
invariant-loop-place l = (l.locals ≡ map let_local (drop l.place l.self) ++ l.initial.locals) × (l.place ≤ length l.self)
