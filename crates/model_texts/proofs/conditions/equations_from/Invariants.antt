use Rattle.std.proofs.Common.{◌≤◌, ◌-◌, length}
use Rattle.script_terms.specs.Places.{forms_from}
use Rattle.model_texts.proofs.EquationsFound.{Collects}
use Rattle.model_texts.proofs.conditions.equations_from.Given as goal

-- the equations so far, in front of what the forms that are left give
abbrev pub invariant-loop-equation : goal.invariant-loop-equation
invariant-loop-equation l =
    (l.next ≤ length l.forest.tokens) × Collects l.forest.tokens l.sorts l.parameters (forms_from l.forest.tokens l.first) l.equations.items (forms_from l.forest.tokens l.next)

abbrev pub decreases-loop-equation : goal.decreases-loop-equation
decreases-loop-equation l = length l.forest.tokens - l.next
