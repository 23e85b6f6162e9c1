use Rattle.std.proofs.Common.{◌≡◌, take, false}
use Rattle.term_table.specs.Formulas.{Formulas}
use Rattle.pass_laws.specs.LiveGroups.{global_behind}
use Rattle.passes.specs.Plans.{steps_of}
use Rattle.passes.proofs.searching.is_global_behind.Given as goal

abbrev pub invariant-loop-step : goal.invariant-loop-step
invariant-loop-step l = (t : Formulas) → global_behind false (take l.step-index (steps_of t l.steps)) ≡ l.is_global
