use Rattle.std.proofs.Common.{◌≤◌, ◌+◌, ◌*◌, ◌^◌, length, drop, Option, All}
use Rattle.term_table.specs.Formulas.{Formulas}
use Rattle.pass_laws.specs.LiveGroups.{met_in}
use Rattle.passes.specs.LiveSymbols.{HasUseOf, IsSearched, IsSearchOver}
use Rattle.passes.specs.Plans.{Uses, HaveUses, steps_of, IsStepOver}
use Rattle.passes.proofs.searching.live_behind.Given as goal

abbrev pub invariant-loop-place : goal.invariant-loop-place
invariant-loop-place l = record {
  within : l.place ≤ length l.steps;
  searched : (t : Formulas) → IsSearched t l.search (met_in l.is_global (drop l.place (steps_of t l.steps)));
  over : (t : Formulas) → All (IsStepOver t) l.steps → IsSearchOver t l.search;
  uses : (t : Formulas) (uses : Option Uses) → All (HaveUses t uses) l.steps → All (HasUseOf t uses) l.search.given;
  closed : l.search.closed + l.place * 2 ^ 64 ≤ length l.steps * 2 ^ 64;
}
